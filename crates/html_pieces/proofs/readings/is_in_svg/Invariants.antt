use Rattle.std.proofs.Common.{◌≡◌, ◌≤◌, take, length}
use Rattle.html_pieces.specs.Elements.{as_elements}
use Rattle.html_pieces.specs.Readings.{is_in_svg}
use Rattle.html_pieces.proofs.readings.is_in_svg.Given as goal

abbrev pub invariant-loop-i : goal.invariant-loop-i
invariant-loop-i l = record {
  within : l.i ≤ length l.elements;
  told : is_in_svg (as_elements (take l.i l.elements)) ≡ is_in_svg (as_elements l.elements);
}

abbrev pub decreases-loop-i : goal.decreases-loop-i
decreases-loop-i l = l.i
