use Rattle.hyphenation_trie.specs.Trie.{entries_of_key}
use Rattle.hyphenation_score.proofs.WinnersMet.{winners_met}
use Rattle.hyphenation_score.proofs.contest.compete_all.Goals as goal

pub returns-clause-winners : goal.returns-clause-winners
returns-clause-winners g c = winners_met (entries_of_key c.args.automaton.now) c.args.word.now c.args.bests.now c.compete_in_frame.new.slots c.requires.places c.compete_in_frame.auto.slots c.requires.none c.compete_in_frame.ensures.slots
