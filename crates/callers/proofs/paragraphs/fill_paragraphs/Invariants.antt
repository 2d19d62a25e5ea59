use Rattle.std.proofs.Common.{◌≡◌, map}
use Rattle.std.specs.List.{flat_map}
use Rattle.std.specs.String.{string_bytes}
use Rattle.callers.specs.Paragraphs.{filled_paragraph}
use Rattle.callers.proofs.paragraphs.fill_paragraphs.Given as goal

abbrev pub invariant-loop-paragraph : goal.invariant-loop-paragraph
invariant-loop-paragraph g l =
    string_bytes l.page ≡ flat_map (filled_paragraph (g.H.Hyphenator.breaks_of l.dictionary) l.columns) (map (λ x. x.now) l.yielded)
