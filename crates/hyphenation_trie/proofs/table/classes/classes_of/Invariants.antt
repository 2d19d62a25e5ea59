use Rattle.hyphenation_trie.proofs.TableOrder.{AreClassesTo}
use Rattle.hyphenation_trie.proofs.table.classes.classes_of.Given as goal

abbrev pub invariant-loop-node : goal.invariant-loop-node
invariant-loop-node g l = AreClassesTo l.automaton.texts l.classes l.last l.node
