use Rattle.std.proofs.Common.{◌≡◌, ◌<◌, ℕ, true, false, length, get_or}
use Rattle.hyphenation_dictionary.specs.Parts.{patterns_of}
use Rattle.libhyphen_files.specs.Vectors.{BeginsNoKey, BeginsSomeKey}
use Rattle.libhyphen_files.proofs.vectors.first_bytes.Given as goal

abbrev pub invariant-loop-byte : goal.invariant-loop-byte
invariant-loop-byte l = record {
  bytes : length l.marks ≡ 256;
  each : (byte : ℕ) → byte < l.byte → get_or l.marks byte false ≡ false → BeginsNoKey (patterns_of l.patterns) byte;
  only : (byte : ℕ) → byte < l.byte → get_or l.marks byte false ≡ true → BeginsSomeKey (patterns_of l.patterns) byte;
}
