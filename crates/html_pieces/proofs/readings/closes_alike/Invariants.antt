use Rattle.std.proofs.Common.{◌≡◌, ◌≤◌, take, length, true}
use Rattle.html_pieces.specs.Elements.{as_elements, depth_limit}
use Rattle.html_pieces.specs.Readings.{closes_alike_from}
use Rattle.html_pieces.proofs.readings.closes_alike.Given as goal

abbrev pub invariant-loop-i : goal.invariant-loop-i
invariant-loop-i l = record {
  within : l.i ≤ length l.elements;
  told : closes_alike_from l.name l.tag l.left l.all (as_elements (take l.i l.elements)) ≡ closes_alike_from l.name l.tag depth_limit true (as_elements l.elements);
}

abbrev pub decreases-loop-i : goal.decreases-loop-i
decreases-loop-i l = l.i
