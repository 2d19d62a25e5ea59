use Rattle.std.proofs.Common.{◌≡◌, ◌≤◌, take, length}
use Rattle.html_pieces.specs.Elements.{around_nearest_in_scope, depth_limit, as_elements}
use Rattle.html_pieces.proofs.elements.kept_by_end_tag.Given as goal

abbrev pub invariant-loop-i : goal.invariant-loop-i
invariant-loop-i l = record {
  within : l.i ≤ length l.elements;
  told : around_nearest_in_scope l.form l.name l.tag l.left (as_elements (take l.i l.elements)) ≡ around_nearest_in_scope l.form l.name l.tag depth_limit (as_elements l.elements);
}

abbrev pub decreases-loop-i : goal.decreases-loop-i
decreases-loop-i l = l.i
