use Rattle.std.proofs.Common.{◌∷◌, ◌++◌, [], map, ap, sym, ◌∙◌, append-nil}
use Rattle.std.proofs.lemmas.Iterator.Consumers.{YieldsList-end}
use Rattle.std.proofs.lemmas.Iterator.Splits.{YieldsList-from_lines}
use Rattle.std.proofs.lemmas.List.{map-append}
use Rattle.std.specs.Str.Iter.{lines_rest}
use Rattle.written_texts.specs.Blocks.{blocks_from, start}
use Rattle.written_texts.specs.Private.Views.{blocks_of, state_of}
use Rattle.written_texts.proofs.Steps.{passed}
use Rattle.written_texts.proofs.blocks.blocks_of.Goals as goal

pub loop-line-preserved : goal.loop-line-preserved
loop-line-preserved c others =
    let before = map (λ x. x.now) c.loop-line.yielded in
    passed (state_of c.loop-line.state) (state_of c.pass_line.new.self) c.in-Some.line.now before others
    (blocks_of c.loop-line.all.items) (blocks_of c.pass_line.new.all.items) c.loop-line.invariant c.in_ok-pass_line.ensures.added c.in_ok-pass_line.ensures.after
    ∙ ap (λ ls. blocks_from start (ls ++ others)) (sym (map-append (λ x. x.now) c.loop-line.yielded (c.in-Some.line ∷ [])))

pub returns : goal.returns
returns c =
    let text = c.args.text.now in
    let is = c.into_iter-line-iterator.ensures.into_iter_gives in
    let all = YieldsList-end (YieldsList-from_lines {s = c.into_iter-line-iterator.result} text (ap lines_rest is ∙ c.lines-line-items.ensures.rest))
    c.loop-line.yielded _ c.loop-line.yielded_by _ _ c.in-None.is c.next.ensures.steps in
    c.in_ok-end_paragraph.ensures.added ∙ c.loop-line.invariant [] ∙ ap (blocks_from start) (append-nil _ ∙ all.0)
