use Rattle.std.proofs.Common.{◌≡◌, ℕ, ◌+◌, ◌%◌, ◌<◌, ◌≤◌, slice_index}
use Rattle.hyphenation_breaks.specs.Ascii.{digit_zero}
use Rattle.libhyphen_rule.proofs.plain_words.write_all.Given as goal

abbrev pub invariant-loop-i : goal.invariant-loop-i
invariant-loop-i l = record {
  written : (k : ℕ) → k < l.i → slice_index l.list k ≡ (slice_index l.initial.list k + digit_zero) % 256;
  behind : (k : ℕ) → l.i ≤ k → slice_index l.list k ≡ slice_index l.initial.list k;
}
