use Rattle.std.proofs.Common.{◌≡◌, ◌∙◌, ◌++◌, [], ◌∷◌, length, take, sym, ap, false, true}
use Rattle.std.specs.List.{list_all}
use Rattle.std.proofs.lemmas.List.{length-take-le, length-map}
use Rattle.libhyphen_rule.specs.Found.{placed_all}
use Rattle.libhyphen_rule.specs.Parts.{some_change}
use Rattle.libhyphen_rule.proofs.Ascii.{ascii_digits, ascii_changes, is_small}
use Rattle.libhyphen_rule.proofs.calls.answer_in_characters.Goals as goal

pub returns-then-not-has_change-clause-digits : goal.returns-then-not-has_change-clause-digits
returns-then-not-has_change-clause-digits c =
    let word = take c.args.size c.args.text.now in
    let size : length word ≡ c.args.size = length-take-le c.args.size c.args.text.now c.requires.within in
    let small : list_all is_small word ≡ true = sym c.is_ascii.ensures ∙ c.if-is_ascii.true in
    ascii_digits word c.args.digits.items small (c.requires.digits ∙ sym size)

pub returns-then-not-has_change-clause-changes : goal.returns-then-not-has_change-clause-changes
returns-then-not-has_change-clause-changes c =
    let word = take c.args.size c.args.text.now in
    let size : length word ≡ c.args.size = length-take-le c.args.size c.args.text.now c.requires.within in
    let small : list_all is_small word ≡ true = sym c.is_ascii.ensures ∙ c.if-is_ascii.true in
    let none : some_change (placed_all c.args.changes.items) ≡ false =
    ap (λ xs. some_change (placed_all xs)) (sym c.deref.ensures.value) ∙ sym c.has_change.ensures ∙ c.if-not-has_change.true in
    ascii_changes word (c.args.text.now ++ 0 ∷ []) (placed_all c.args.changes.items) small (length-map _ _ ∙ c.requires.changes ∙ sym size) none
