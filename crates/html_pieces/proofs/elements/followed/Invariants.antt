use Rattle.std.proofs.Common.{◌≡◌, take}
use Rattle.html_pieces.specs.Elements.{as_elements, followed}
use Rattle.html_pieces.proofs.elements.followed.Given as goal

abbrev pub invariant-loop-element : goal.invariant-loop-element
invariant-loop-element l = as_elements l.nest.items ≡ followed (as_elements (take l.element-index l.elements))
