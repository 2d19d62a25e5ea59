use Rattle.hyphenation_dictionary.proofs.PatternsLemmas.{patterns_of-insert}
use Rattle.hyphenation_dictionary.proofs.laws.inserted_key_is_added.Goals as goal

pub returns : goal.returns
returns g c = patterns_of-insert _
