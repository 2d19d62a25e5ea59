use Rattle.std.proofs.Common.{◌≡◌, ◌+◌, ◌-◌, ◌<◌, ◌≤◌, length}
use Rattle.std.specs.Prelude.{IsSome}
use Rattle.hyphenation_trie.specs.Trie.{node_text, entries_of_key}
use Rattle.hyphenation_trie.specs.Links.{EndsWith, keys_in}
use Rattle.hyphenation_score.specs.Private.OnePass.{AreAfter}
use Rattle.hyphenation_score.proofs.OnePass.{visited}
use Rattle.hyphenation_score.proofs.pass.compete_keys_at.Given as goal

abbrev pub invariant-loop-node : goal.invariant-loop-node
invariant-loop-node g l = record {
  within : l.node < length l.automaton.texts;
  ends : EndsWith (node_text l.automaton l.from) (node_text l.automaton l.node);
  key : 0 < l.node → IsSome (entries_of_key l.automaton (node_text l.automaton l.node));
  len : length l.slots ≡ length l.fn.slots;
  met : AreAfter g.S.Slot.meaning g.S.Slot.after l.fn.slots (visited (entries_of_key l.automaton) (node_text l.automaton l.from) l.end (length (node_text l.automaton l.from) - length (node_text l.automaton l.node))) l.slots;
  reported : l.count.reported ≡ l.fn.count.reported + keys_in l.automaton (node_text l.automaton l.from) (length (node_text l.automaton l.from) - length (node_text l.automaton l.node));
  few : l.count.reported + length (node_text l.automaton l.node) ≤ l.fn.count.reported + length (node_text l.automaton l.from);
  made : l.count.made ≡ l.fn.count.made;
}

abbrev pub decreases-loop-node : goal.decreases-loop-node
decreases-loop-node g l = length (node_text l.automaton l.node)
