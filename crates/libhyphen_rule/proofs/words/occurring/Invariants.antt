use Rattle.std.proofs.Common.{◌≡◌, ◌<◌, ◌==◌, ℕ, false, length, slice_index_or, take}
use Rattle.std.specs.List.{list_any}
use Rattle.libhyphen_rule.proofs.words.occurring.Given as goal

abbrev pub invariant-loop-byte : goal.invariant-loop-byte
invariant-loop-byte l = record {
  bytes : length l.occurs ≡ 256;
  each : (b : ℕ) → b < 256 → slice_index_or l.occurs b false ≡ list_any (λ byte. byte == b) (take l.byte-index l.text);
}
