use Rattle.hyphenation_trie.proofs.Suffixes.{longest_more}
use Rattle.hyphenation_trie.proofs.laws.longest_goes_on.Goals as goal

pub returns : goal.returns
returns g c = longest_more
