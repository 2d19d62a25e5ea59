use Rattle.std.proofs.Common.{◌≡◌, ◌≤◌, take, length}
use Rattle.html_pieces.specs.Elements.{kept_open, before_new, as_elements}
use Rattle.html_pieces.proofs.elements.before_new.Given as goal

abbrev pub invariant-loop-i : goal.invariant-loop-i
invariant-loop-i l = record {
  within : l.i ≤ length l.elements;
  kept_within : l.kept ≤ length l.elements;
  told : kept_open l.new l.left (as_elements (take l.kept l.elements)) (as_elements (take l.i l.elements)) ≡ before_new l.new (as_elements l.elements);
}

abbrev pub decreases-loop-i : goal.decreases-loop-i
decreases-loop-i l = l.i
