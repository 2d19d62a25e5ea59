use Rattle.std.proofs.Common.{take}
use Rattle.libhyphen_rule.specs.Private.Lanes.{AtRow}
use Rattle.libhyphen_rule.proofs.plain_words.row_of.Given as goal

abbrev pub invariant-loop-byte : goal.invariant-loop-byte
invariant-loop-byte l = AtRow l.patterns l.vectors (take l.byte-index l.text) l.row
