use Rattle.std.proofs.Common.{◌≡◌, ◌<◌, ℕ, length}
use Rattle.std.specs.Prelude.{slice_index_or}
use Rattle.libhyphen_rule.specs.Private.Cells.{empty_cell}
use Rattle.libhyphen_rule.specs.declared.cells.Cell.{Cell}
use Rattle.libhyphen_rule.proofs.cells.empty_cells.Given as goal

abbrev pub invariant-loop-place : goal.invariant-loop-place
invariant-loop-place l = record {
  size : length l.cells.items ≡ l._place;
  cells : (place : ℕ) (d : Cell) → place < length l.cells.items → slice_index_or l.cells.items place d ≡ empty_cell;
}
