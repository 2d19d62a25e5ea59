use Rattle.std.proofs.Common.{◌≡◌, ◌≤◌, ◌<◌, ℕ, if◌then◌else◌}
use Rattle.std.specs.Prelude.{slice_index}
use Rattle.libhyphen_rule.specs.Words.{is_beside}
use Rattle.libhyphen_rule.proofs.words.take_beside_one.Given as goal

abbrev pub invariant-loop-byte : goal.invariant-loop-byte
invariant-loop-byte l = record {
  done : (k : ℕ) → k < l.byte → slice_index l.digits k
      ≡ (if is_beside l.text k l.part then l.instead else slice_index l.fn.digits k);
  left : (k : ℕ) → l.byte ≤ k → slice_index l.digits k ≡ slice_index l.fn.digits k;
}
