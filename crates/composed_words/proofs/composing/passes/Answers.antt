use Rattle.std.proofs.Common.{chars, refl, rules, ◌∙◌}
use Rattle.unicode_normalization.proofs.IterLemmas.{Spells-chars}
use Rattle.composed_words.proofs.Compositions.{is_composed_if_nfc}
use Rattle.composed_words.proofs.LawsOfPlaces.{ascii}
use Rattle.composed_words.proofs.composing.passes.Goals as goal

pub returns-then-is_ascii-clause-composed : goal.returns-then-is_ascii-clause-composed
returns-then-is_ascii-clause-composed c = λ _. ascii c.args.word.now (search rules)

pub returns-in-Yes-clause-composed : goal.returns-in-Yes-clause-composed
returns-in-Yes-clause-composed c =
    λ _. is_composed_if_nfc _ c.utf8.word (c.in-Yes.ensures.yes (chars c.args.word.now) (Spells-chars c.chars.result _ c.utf8.word c.chars.ensures.rest) refl)

pub returns-in_default-clause-all : goal.returns-in_default-clause-all
returns-in_default-clause-all c =
    λ yes. absurd (c.in_default.not-Yes (c.is_nfc_quick.ensures.value (chars c.args.word.now) (Spells-chars c.chars.result _ c.utf8.word c.chars.ensures.rest) ∙ yes))
