use Rattle.std.proofs.Common.{◌∙◌, sym, ap, refl}
use Rattle.std.specs.Option.{option_map}
use Rattle.hyphenation_dictionary.proofs.ExceptionsLemmas.{get-exceptions_of, exceptions_of-remove}
use Rattle.hyphenation_dictionary.proofs.TaggedSlots.{tagged_after_remove}
use Rattle.hyphenation_dictionary.proofs.exceptions.Exceptions.remove.Goals as goal

pub invariant_of-self : goal.invariant_of-self
invariant_of-self g c =
    let words = exceptions_of-remove c.self.inside.words c.remove.new.self c.args.word.now c.remove.ensures.updates in
    rw words (tagged_after_remove c.self.inside.tags.items _ c.args.word.now c.self.invariant)

pub returns-clause-removed : goal.returns-clause-removed
returns-clause-removed g c =
    let words = exceptions_of-remove c.self.inside.words c.remove.new.self c.args.word.now c.remove.ensures.updates in
    rw (words, ← c.self.view_is) refl

pub returns-clause-listed_before : goal.returns-clause-listed_before
returns-clause-listed_before g c = rw (← c.self.view_is) (ap (option_map (λ v. v.items)) c.remove.ensures.value ∙ sym (get-exceptions_of c.self.inside.words c.args.word.now))
