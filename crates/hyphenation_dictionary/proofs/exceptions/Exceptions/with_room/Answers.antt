use Rattle.hyphenation_dictionary.proofs.ExceptionsLemmas.{exceptions_of-empty}
use Rattle.hyphenation_dictionary.proofs.TaggedSlots.{none_tagged}
use Rattle.hyphenation_dictionary.proofs.exceptions.Exceptions.with_room.Goals as goal

pub invariant_of-result : goal.invariant_of-result
invariant_of-result g c = none_tagged c.in_ok-tags.tags.items _ c.in_ok-tags.ensures (exceptions_of-empty c.in_ok-words.words c.in_ok-words.ensures.empty)
