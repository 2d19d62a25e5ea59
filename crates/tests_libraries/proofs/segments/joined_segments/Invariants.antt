use Rattle.std.proofs.Common.{◌≡◌, ◌++◌, map}
use Rattle.std.specs.List.{concat}
use Rattle.std.specs.String.{string_bytes}
use Rattle.hyphenation_breaks.specs.Break.{plain_break}
use Rattle.hyphenation_segments.specs.Segments.{segments}
use Rattle.tests_libraries.proofs.segments.joined_segments.Given as goal

abbrev pub invariant-loop-segment : goal.invariant-loop-segment
invariant-loop-segment l = string_bytes l.joined ++ concat l.segment-iterator ≡ concat (segments l.text (map plain_break l.breaks))
