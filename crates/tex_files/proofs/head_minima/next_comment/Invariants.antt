use Rattle.std.proofs.Common.{◌≡◌, ◌≤◌, length}
use Rattle.tex_files.specs.Heads.{comments_in}
use Rattle.tex_files.proofs.head_minima.next_comment.Given as goal

abbrev pub invariant-loop-line : goal.invariant-loop-line
invariant-loop-line l = record {
  same : comments_in l.rest ≡ comments_in l.text;
  shorter : length l.rest ≤ length l.text;
}

abbrev pub decreases-loop-line : goal.decreases-loop-line
decreases-loop-line l = length l.rest
