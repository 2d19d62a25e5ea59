use Rattle.std.proofs.Common.{◌≡◌, ◌++◌, map, drop}
use Rattle.std.specs.Io.{StartsWith}
use Rattle.std.specs.String.{string_bytes}
use Rattle.hyphenation_segments.specs.Segments.{marked_word}
use Rattle.hyphenation_segments.proofs.Pushing.{to_append, FitFrom}
use Rattle.hyphenation_segments.proofs.iter.pushing.push_segments.Given as goal

abbrev pub invariant-loop-b : goal.invariant-loop-b
invariant-loop-b g l =
    ((string_bytes l.output ++ to_append l.mark l.text l.start (map g.B.Break.meaning (drop l.b-index l.breaks)) ≡ string_bytes l.initial.output ++ marked_word l.mark l.text (map g.B.Break.meaning l.breaks))
    × FitFrom l.text l.start (map g.B.Break.meaning (drop l.b-index l.breaks)))
    × StartsWith (string_bytes l.output) (string_bytes l.initial.output)
