use Rattle.std.proofs.Common.{ℕ, ◌<◌, slice_index}
use Rattle.std.specs.Prelude.{IsTrue, IsFalse}
use Rattle.hyphenation_breaks.specs.Ascii.{dot}
use Rattle.libhyphen_files.specs.Ordinary.{IsOrdinary}
use Rattle.libhyphen_files.specs.Vectors.{BeginsNoKey}
use Rattle.libhyphen_rule.proofs.calls.look_at.Given as goal

abbrev pub invariant-loop-byte : goal.invariant-loop-byte
invariant-loop-byte l = record {
  ordinary : IsTrue l.ordinary → (k : ℕ) → k < l.byte-index → IsOrdinary l.dictionary (slice_index l.text k);
  dotted : IsFalse l.counts → BeginsNoKey l.dictionary.first_level.patterns dot;
  each : IsFalse l.counts → (k : ℕ) → k < l.byte-index → BeginsNoKey l.dictionary.first_level.patterns (slice_index l.text k);
  ascii : IsTrue l.ascii → (k : ℕ) → k < l.byte-index → slice_index l.text k < 128;
}
