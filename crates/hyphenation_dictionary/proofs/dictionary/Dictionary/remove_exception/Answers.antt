use Rattle.hyphenation_dictionary.proofs.InvariantLemmas.{IsKept-remove}
use Rattle.hyphenation_dictionary.proofs.dictionary.Dictionary.remove_exception.Goals as goal

pub invariant_of-self : goal.invariant_of-self
invariant_of-self g c =
    (c.self.invariant.0, c.self.invariant.1, rw c.remove.ensures.removed (IsKept-remove g.C.Payload.change_of g.B.Break.meaning _ c.args.word.now c.self.invariant.2))
