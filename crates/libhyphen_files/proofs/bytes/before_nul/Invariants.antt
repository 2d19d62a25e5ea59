use Rattle.std.proofs.Common.{◌≡◌, ◌+◌, ◌==◌, drop}
use Rattle.std.specs.List.{position_or_len}
use Rattle.libhyphen_files.proofs.bytes.before_nul.Given as goal

abbrev pub invariant-loop-i : goal.invariant-loop-i
invariant-loop-i l = position_or_len (λ b. b == 0) l.text ≡ l.i + position_or_len (λ b. b == 0) (drop l.i l.text)
