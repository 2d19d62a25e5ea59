use Rattle.std.proofs.Common.{◌≡◌, ◌-◌}
use Rattle.libhyphen_rule.specs.Found.{placed_all}
use Rattle.libhyphen_rule.specs.Words.{writing_at}
use Rattle.libhyphen_rule.proofs.words.written_word.Given as goal

abbrev pub invariant-loop-byte : goal.invariant-loop-byte
invariant-loop-byte l = record {
  written : l.written.items ≡ (writing_at l.word l.digits (placed_all l.changes) l.byte).written;
  passed : l.passed ≡ (writing_at l.word l.digits (placed_all l.changes) l.byte).next - l.byte;
}
