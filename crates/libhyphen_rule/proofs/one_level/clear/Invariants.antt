use Rattle.std.proofs.Common.{◌≡◌, ◌<◌, ℕ, length, Option, None, get_or}
use Rattle.libhyphen_rule.specs.declared.one_level.PlacedChange.{PlacedChange}
use Rattle.libhyphen_rule.proofs.one_level.clear.Given as goal

abbrev pub invariant-loop-change : goal.invariant-loop-change
invariant-loop-change l = record {
  len : length l.changes ≡ length l.fn.changes;
  none : (k : ℕ) (d : Option PlacedChange) → k < l.change-index → get_or l.changes k d ≡ None;
}
