use Rattle.std.proofs.Common.{◌≡◌, length}
use Rattle.tex_files.specs.Heads.{comments_in, first_minimum}
use Rattle.tex_files.proofs.head_minima.first_minimum.Given as goal

abbrev pub invariant-loop-comment : goal.invariant-loop-comment
invariant-loop-comment l = first_minimum l.name (comments_in l.rest) ≡ first_minimum l.name (comments_in l.text)

abbrev pub decreases-loop-comment : goal.decreases-loop-comment
decreases-loop-comment l = length l.rest
