use Rattle.std.proofs.Common.{◌≡◌, ℕ, ◌<◌, get_or, drop}
use Rattle.linefill.proofs.filling.next_plain_cut.Given as goal

-- None of the bytes so far is a space.
abbrev pub invariant-loop-index : goal.invariant-loop-index
invariant-loop-index l = (k : ℕ) → k < l.index → get_or (drop l.from l.text) k 0 ≡ 32 → ⊥
