use Rattle.std.proofs.Common.{◌≡◌, ap, ◌∙◌}
use Rattle.std.proofs.lemmas.Iterator.Consumers.{YieldsList-end}
use Rattle.std.proofs.lemmas.Iterator.Splits.{YieldsList-from_lines}
use Rattle.std.specs.List.{flat_map}
use Rattle.std.specs.Str.Iter.{lines_rest}
use Rattle.callers.specs.Paragraphs.{filled_paragraph}
use Rattle.callers.proofs.paragraphs.fill_paragraphs.Goals as goal

pub returns : goal.returns
returns g c =
    let rest : lines_rest c.into_iter-paragraph-iterator.result ≡ c.args.text.now = ap lines_rest c.into_iter-paragraph-iterator.ensures.into_iter_gives ∙ c.lines-paragraph-items.ensures.rest in
    let all = YieldsList-end (YieldsList-from_lines {s = c.into_iter-paragraph-iterator.result} c.args.text.now rest) c.loop-paragraph.yielded _ c.loop-paragraph.yielded_by _ _ c.in-None.is c.next.ensures.steps in
    c.loop-paragraph.invariant ∙ ap (flat_map (filled_paragraph (g.H.Hyphenator.breaks_of c.args.dictionary.now) c.args.columns)) all.0
