use Rattle.std.proofs.Common.{◌≡◌, map}
use Rattle.std.specs.List.{range_with_len}
use Rattle.libhyphen_rule.specs.Calls.{inner_digit}
use Rattle.libhyphen_rule.proofs.calls.inner_digits.Given as goal

abbrev pub invariant-loop-byte : goal.invariant-loop-byte
invariant-loop-byte l = l.inner.items ≡ map (inner_digit l.digits) (range_with_len 0 l.byte)
