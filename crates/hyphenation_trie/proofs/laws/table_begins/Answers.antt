use Rattle.hyphenation_trie.proofs.TableSteps.{root_goes_on, keys_near}
use Rattle.hyphenation_trie.proofs.laws.table_begins.Goals as goal

pub returns : goal.returns
returns g c = λ rank keys table is. (root_goes_on rank keys table is, keys_near rank keys table is)
