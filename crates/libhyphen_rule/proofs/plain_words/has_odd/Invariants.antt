use Rattle.std.proofs.Common.{◌≡◌, ◌-◌, ℕ, ◌+◌, ◌<◌, false, slice_index}
use Rattle.libhyphen_rule.specs.OneLevel.{is_odd}
use Rattle.libhyphen_rule.proofs.plain_words.has_odd.Given as goal

abbrev pub invariant-loop-at : goal.invariant-loop-at
invariant-loop-at l = (k : ℕ) → k < l.at → is_odd (slice_index l.list (16 + k)) ≡ false

abbrev pub decreases-loop-at : goal.decreases-loop-at
decreases-loop-at l = l.count - l.at
