use Rattle.std.proofs.Common.{◌≡◌, ◌≤◌, take}
use Rattle.libhyphen_rule.specs.Words.{characters}
use Rattle.libhyphen_rule.proofs.words.characters.Given as goal

abbrev pub invariant-loop-byte : goal.invariant-loop-byte
invariant-loop-byte l = (l.count ≡ characters (take l.byte-index l.text)) × (l.count ≤ l.byte-index)
