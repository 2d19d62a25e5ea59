use Rattle.std.proofs.Common.{◌≡◌, ◌≤◌, ℕ, length, map, take}
use Rattle.std.specs.Prelude.{filter, slice_index}
use Rattle.std.specs.List.{range_with_len}
use Rattle.libhyphen_rule.specs.Words.{is_last}
use Rattle.libhyphen_rule.proofs.words.keep_last_digits.Given as goal

abbrev pub invariant-loop-byte : goal.invariant-loop-byte
invariant-loop-byte l = record {
  length : length l.digits ≡ length l.fn.digits;
  count : l.count ≤ l.byte;
  kept : take l.count l.digits ≡ map (λ byte. slice_index l.fn.digits byte) (filter (is_last l.word) (range_with_len 0 l.byte));
  later : (byte : ℕ) → l.byte ≤ byte → slice_index l.digits byte ≡ slice_index l.fn.digits byte;
}
