use Rattle.hyphenation_dictionary.proofs.PatternsLemmas.{get-patterns_of}
use Rattle.hyphenation_dictionary.proofs.laws.keys_are_looked_up.Goals as goal

pub returns : goal.returns
returns g c = get-patterns_of _
