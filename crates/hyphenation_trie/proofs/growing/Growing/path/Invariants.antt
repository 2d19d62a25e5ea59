use Rattle.std.proofs.Common.{◌≡◌, ◌<◌, length, take, List, ℕ}
use Rattle.hyphenation_trie.specs.Trie.{node_text, entries_of_key, AddsFront, KeepsNodes}
use Rattle.hyphenation_trie.specs.Private.Trail.{IsTrail}
use Rattle.hyphenation_trie.proofs.growing.Growing.path.Given as goal

abbrev pub invariant-loop-at : goal.invariant-loop-at
invariant-loop-at g l = record {
  trail : IsTrail l.self l.trail;
  key : l.trail.key.items ≡ take l.at l.text;
  within : l.node < length l.self.texts;
  text : node_text l.self l.node ≡ take l.at l.text;
  keys : (q : List ℕ) → entries_of_key l.self q ≡ entries_of_key l.fn.self q;
  adds : AddsFront l.fn.self l.self l.text;
  nodes : KeepsNodes l.fn.self l.self;
}
