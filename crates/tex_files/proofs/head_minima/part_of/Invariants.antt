use Rattle.std.proofs.Common.{◌≡◌, length}
use Rattle.tex_files.specs.Heads.{comments_in, part_of}
use Rattle.tex_files.proofs.head_minima.part_of.Given as goal

abbrev pub invariant-loop-comment : goal.invariant-loop-comment
invariant-loop-comment l = part_of l.name (comments_in l.rest) ≡ part_of l.name (comments_in l.text)

abbrev pub decreases-loop-comment : goal.decreases-loop-comment
decreases-loop-comment l = length l.rest
