use Rattle.std.proofs.Common.{◌≡◌, ◌≤◌, ◌+◌, ◌-◌, length, drop}
use Rattle.std.specs.List.{prefix_len}
use Rattle.std.specs.Char.{is_ascii_digit}
use Rattle.libhyphen_rule.proofs.letters.digits_at_begin.Given as goal

abbrev pub invariant-loop-digits : goal.invariant-loop-digits
invariant-loop-digits l = record {
  within : l.digits ≤ length l.text;
  count : l.digits + prefix_len is_ascii_digit (drop l.digits l.text) ≡ prefix_len is_ascii_digit l.text;
}

abbrev pub decreases-loop-digits : goal.decreases-loop-digits
decreases-loop-digits l = length l.text - l.digits
