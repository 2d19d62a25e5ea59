use Rattle.std.proofs.Common.{◌≡◌, ◌+◌, length}
use Rattle.libhyphen_rule.specs.Counting.{framed}
use Rattle.libhyphen_rule.specs.Private.Lanes.{IsPassed}
use Rattle.libhyphen_rule.proofs.plain_words.read_whole.Given as goal

abbrev pub invariant-loop-at : goal.invariant-loop-at
invariant-loop-at l = record {
  len : length l.list ≡ length l.fn.list;
  passed : IsPassed l.patterns l.vectors (framed l.word) (l.at + 1) l.pass l.list;
}
