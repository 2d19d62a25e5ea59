use Rattle.std.proofs.Common.{◌≡◌, ◌≤◌, take, length}
use Rattle.html_pieces.specs.Elements.{as_elements}
use Rattle.html_pieces.specs.Readings.{ends_alike, ends_alike_from}
use Rattle.html_pieces.proofs.readings.ends_alike.Given as goal

abbrev pub invariant-loop-i : goal.invariant-loop-i
invariant-loop-i l = record {
  within : l.i ≤ length l.elements;
  told : ends_alike_from l.standard l.new l.left l.so_far l.all (as_elements (take l.i l.elements)) ≡ ends_alike l.standard l.new (as_elements l.elements);
}

abbrev pub decreases-loop-i : goal.decreases-loop-i
decreases-loop-i l = l.i
