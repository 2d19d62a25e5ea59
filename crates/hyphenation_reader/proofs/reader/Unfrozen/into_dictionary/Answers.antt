use Rattle.hyphenation_reader.proofs.reader.Unfrozen.into_dictionary.Goals as goal

pub dictionary_of-requires-clause-invariant : goal.dictionary_of-requires-clause-invariant
dictionary_of-requires-clause-invariant g c = rw c.in_ok-patterns.ensures c.requires.sound

pub dictionary_of-requires-clause-begins : goal.dictionary_of-requires-clause-begins
dictionary_of-requires-clause-begins g c = rw c.in_ok-patterns.ensures c.requires.begins

pub returns : goal.returns
returns g c = rw c.in_ok-patterns.ensures at c.dictionary_of.ensures
