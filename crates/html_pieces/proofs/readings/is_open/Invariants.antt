use Rattle.std.proofs.Common.{◌≡◌, ◌≤◌, take, length}
use Rattle.html_pieces.specs.Elements.{as_elements}
use Rattle.html_pieces.specs.Readings.{is_open}
use Rattle.html_pieces.proofs.readings.is_open.Given as goal

abbrev pub invariant-loop-i : goal.invariant-loop-i
invariant-loop-i l = record {
  within : l.i ≤ length l.elements;
  told : is_open l.name l.group (as_elements (take l.i l.elements)) ≡ is_open l.name l.group (as_elements l.elements);
}

abbrev pub decreases-loop-i : goal.decreases-loop-i
decreases-loop-i l = l.i
