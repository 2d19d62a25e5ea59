use Rattle.std.proofs.Common.{sym, subst}
use Rattle.hyphenation_trie.specs.Trie.{EachBeginsKey}
use Rattle.hyphenation_reader.proofs.reader.Builder.add.Goals as goal

pub returns-in_ok-had-in-Exception-clause-begins : goal.returns-in_ok-had-in-Exception-clause-begins
returns-in_ok-had-in-Exception-clause-begins g c = λ begins. subst EachBeginsKey (sym c.in_ok-had-in-Exception.ensures.patterns) begins
