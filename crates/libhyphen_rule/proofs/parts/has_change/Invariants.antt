use Rattle.std.proofs.Common.{◌≡◌, is_some, take, false}
use Rattle.std.specs.List.{list_any}
use Rattle.libhyphen_rule.proofs.parts.has_change.Given as goal

abbrev pub invariant-loop-i : goal.invariant-loop-i
invariant-loop-i l = list_any is_some (take l.i l.changes) ≡ false
