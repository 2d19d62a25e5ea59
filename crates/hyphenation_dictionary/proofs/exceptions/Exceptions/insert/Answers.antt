use Rattle.std.proofs.Common.{◌≡◌, ◌∙◌, true, sym, ap, subst, refl}
use Rattle.std.specs.List.{slice_index}
use Rattle.std.specs.Option.{option_map}
use Rattle.std.specs.String.{string_bytes}
use Rattle.hyphenation_dictionary.specs.Private.Slots.{hash_of, slot_of, tag_of, stands_for}
use Rattle.hyphenation_dictionary.proofs.ExceptionsLemmas.{get-exceptions_of, exceptions_of-insert}
use Rattle.hyphenation_dictionary.proofs.TaggedSlots.{tagged_after_insert}
use Rattle.hyphenation_dictionary.proofs.exceptions.Exceptions.insert.Goals as goal

pub invariant_of-self-2 : goal.invariant_of-self-2
invariant_of-self-2 g c =
    let words = exceptions_of-insert c.self.inside.words c.insert.new.self c.args.word c.args.listed c.in_ok-old.ensures.updates in
    let text = string_bytes c.args.word in
    let hash = c.hash_of-hash.ensures ∙ ap hash_of c.as_bytes.ensures.value in
    let at = c.slot_of.ensures.value ∙ ap slot_of hash in
    let own = c.tag_of.ensures.value ∙ ap tag_of hash in
    let new = c.set_tag.new.tags.items in
    let here = subst (λ k. stands_for (slice_index new k) (tag_of (hash_of text)) ≡ true) at (subst (λ t. stands_for (slice_index new c.slot_of.result) t ≡ true) own c.set_tag.ensures.stands) in
    rw words (tagged_after_insert c.self.inside.tags.items new _ text c.args.listed.items c.self.invariant c.set_tag.ensures.same_count here c.set_tag.ensures.others_stay)

pub returns-clause-listed : goal.returns-clause-listed
returns-clause-listed g c =
    let words = exceptions_of-insert c.self.inside.words c.insert.new.self c.args.word c.args.listed c.in_ok-old.ensures.updates in
    rw (words, ← c.self.view_is) refl

pub returns-clause-listed_before : goal.returns-clause-listed_before
returns-clause-listed_before g c = rw (← c.self.view_is) (ap (option_map (λ v. v.items)) c.in_ok-old.ensures.old ∙ sym (get-exceptions_of c.self.inside.words (string_bytes c.args.word)))
