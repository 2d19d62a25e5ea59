use Rattle.std.proofs.Common.{◌∷◌, [], length, ap, arith}
use Rattle.std.proofs.lemmas.List.{length-append}
use Rattle.libhyphen_rule.specs.Private.Cells.{empty_cell}
use Rattle.libhyphen_rule.proofs.TakenCells.{has_none, empty_more}
use Rattle.libhyphen_rule.proofs.cells.empty_cells.Goals as goal

pub loop-place-preserved : goal.loop-place-preserved
loop-place-preserved c = record {
  size = omega (arith, ap length c.in_ok-push.ensures.items, length-append c.loop-place.cells.items (empty_cell ∷ []), c.loop-place.invariant.size);
  cells = empty_more c.loop-place.cells.items c.push.new.self.items c.in_ok-push.ensures.items c.loop-place.invariant.cells;
}

pub returns-clause-cells : goal.returns-clause-cells
returns-clause-cells c = has_none c.loop-place.cells.items c.loop-place.invariant.cells
