use Rattle.std.proofs.Common.{◌≡◌, length, sym, ap, ◌∙◌, rules}
use Rattle.std.proofs.lemmas.List.{nil_from_length}
use Rattle.composed_words.specs.Composed.{carried}
use Rattle.hyphenation_text.specs.Words.{composed_breaks_under}
use Rattle.hyphenation_text.proofs.Limits.{through_other}
use Rattle.hyphenation_text.proofs.text.Output.carry_breaks.Goals as goal

pub returns-then-is_empty-clause-breaks : goal.returns-then-is_empty-clause-breaks
returns-then-is_empty-clause-breaks c =
    c.in_ok-carried.ensures ∙ ap (carried c.args.word.now) (c.deref.ensures.value ∙ c.in_ok-find_composed_breaks.ensures.breaks)
    ∙ sym (through_other (composed_breaks_under c.args.settings.now c.args.dictionary.now) c.args.word.now c.args.nfc.now c.requires.other c.requires.nfc)

pub returns-then-is_empty-clause-none : goal.returns-then-is_empty-clause-none
returns-then-is_empty-clause-none c =
    let none : length c.in_ok-carried.carried.items ≡ 0 = search rules in
    λ _. sym (returns-then-is_empty-clause-breaks c) ∙ nil_from_length c.in_ok-carried.carried.items none

pub returns-clause-breaks : goal.returns-clause-breaks
returns-clause-breaks c =
    c.in_ok-carried.ensures ∙ ap (carried c.args.word.now) (c.deref.ensures.value ∙ c.in_ok-find_composed_breaks.ensures.breaks)
    ∙ sym (through_other (composed_breaks_under c.args.settings.now c.args.dictionary.now) c.args.word.now c.args.nfc.now c.requires.other c.requires.nfc)
