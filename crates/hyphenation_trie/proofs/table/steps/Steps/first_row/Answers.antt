use Rattle.hyphenation_trie.proofs.NumberedSteps.{first_stands}
use Rattle.hyphenation_trie.proofs.table.steps.Steps.first_row.Goals as goal

pub returns : goal.returns
returns g c = λ numbers are. first_stands c.args.automaton.now c.invariant.ensures numbers c.args.self.now are
