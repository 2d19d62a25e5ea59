use Rattle.std.proofs.Common.{◌≡◌, ◌≤◌, ◌*◌, length, take, None}
use Rattle.std.specs.Prelude.{replicate}
use Rattle.libhyphen_rule.specs.Words.{writing_at}
use Rattle.libhyphen_rule.proofs.words.mark_word.Given as goal

abbrev pub invariant-loop-byte : goal.invariant-loop-byte
invariant-loop-byte l = record {
  long : length l.written ≡ length l.fn.written;
  count : l.count ≤ 2 * l.byte;
  written : take l.count l.written ≡ (writing_at l.word l.digits (replicate (length l.word) None) l.byte).written;
  next : (writing_at l.word l.digits (replicate (length l.word) None) l.byte).next ≡ l.byte;
}
