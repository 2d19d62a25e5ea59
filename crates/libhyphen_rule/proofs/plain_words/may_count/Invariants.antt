use Rattle.std.proofs.Common.{ℕ, ◌<◌, slice_index}
use Rattle.libhyphen_files.specs.Vectors.{BeginsNoKey}
use Rattle.libhyphen_rule.proofs.plain_words.may_count.Given as goal

abbrev pub invariant-loop-byte : goal.invariant-loop-byte
invariant-loop-byte l = (k : ℕ) → k < l.byte-index → BeginsNoKey l.level.patterns (slice_index l.word k)
