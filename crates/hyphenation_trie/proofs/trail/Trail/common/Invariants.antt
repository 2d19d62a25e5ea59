use Rattle.std.proofs.Common.{◌≡◌, take}
use Rattle.hyphenation_trie.proofs.trail.Trail.common.Given as goal

abbrev pub invariant-loop-at : goal.invariant-loop-at
invariant-loop-at l = take l.at l.text ≡ take l.at l.self.key.items
