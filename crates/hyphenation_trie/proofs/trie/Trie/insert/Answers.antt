use Rattle.std.proofs.Common.{sym, subst}
use Rattle.hyphenation_trie.specs.Trie.{EachBeginsKey}
use Rattle.hyphenation_trie.proofs.trie.Trie.insert.Goals as goal

pub returns-in-Ok-clause-begins : goal.returns-in-Ok-clause-begins
returns-in-Ok-clause-begins g c = λ begins. c.in-Ok.ensures.begins (subst (λ t. EachBeginsKey t) (sym c.self.view_is) begins)
