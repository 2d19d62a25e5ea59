use Rattle.std.proofs.Common.{◌≡◌, ◌-◌, List, length}
use Rattle.libhyphen_rule.specs.Counting.{Counted}
use Rattle.libhyphen_rule.specs.Found.{placed_all}
use Rattle.libhyphen_rule.specs.OneLevel.{offers, made_up_to}
use Rattle.libhyphen_rule.specs.Private.Cells.{HasCells}
use Rattle.libhyphen_rule.specs.Private.Claims.{made_now}
use Rattle.libhyphen_rule.proofs.one_level.make_changes.Given as goal

abbrev pub invariant-loop-begin : goal.invariant-loop-begin
invariant-loop-begin l = record {
  len : length l.changes ≡ length l.fn.changes;
  made : (counted : List Counted) → HasCells counted (offers counted) l.cells
      → made_now l.next (placed_all l.changes) ≡ made_up_to counted (length l.fn.changes) (l.begin - 1);
}
