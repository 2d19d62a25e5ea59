use Rattle.hyphenation_trie.specs.Trie.{entries_of_key}
use Rattle.hyphenation_score.proofs.WinnersMet.{values_met}
use Rattle.hyphenation_score.proofs.greatest.raise_all.Goals as goal

pub returns-clause-values : goal.returns-clause-values
returns-clause-values g c = values_met (entries_of_key c.args.automaton.now) c.args.word.now c.args.scores.now c.compete_in_frame.new.slots c.requires.places c.compete_in_frame.auto.slots c.requires.zeros c.compete_in_frame.ensures.slots
