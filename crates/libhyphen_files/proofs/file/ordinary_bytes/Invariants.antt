use Rattle.std.proofs.Common.{◌≡◌, ◌<◌, ℕ, false, true, length, map, get_or}
use Rattle.libhyphen_files.specs.Ordinary.{IsOrdinaryIn}
use Rattle.libhyphen_files.proofs.file.ordinary_bytes.Given as goal

abbrev pub invariant-loop-byte : goal.invariant-loop-byte
invariant-loop-byte l = record {
  bytes : length l.marks ≡ 256;
  each : (byte : ℕ) → byte < l.byte → get_or l.marks byte false ≡ true
      → IsOrdinaryIn (map (λ text. text.items) l.no_hyphen) byte;
}
