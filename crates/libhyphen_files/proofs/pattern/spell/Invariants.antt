use Rattle.std.proofs.Common.{◌≡◌, ◌≤◌, ◌++◌, drop, filter, take}
use Rattle.hyphenation_breaks.specs.Ascii.{digit_zero}
use Rattle.libhyphen_files.specs.Patterns.{no_digit, digits_from}
use Rattle.libhyphen_files.proofs.pattern.spell.Given as goal

abbrev pub invariant-loop-byte : goal.invariant-loop-byte
invariant-loop-byte l = record {
  within : l.count ≤ l.byte-index;
  key : take l.count l.key ++ filter no_digit (drop l.byte-index l.spelt) ≡ filter no_digit l.spelt;
  digits : take l.count l.digits ++ digits_from l.digit (drop l.byte-index l.spelt) ≡ digits_from digit_zero l.spelt;
}
