use Rattle.std.proofs.Common.{◌≡◌, ◌++◌, ◌∙◌, length, encode_utf8, ap, sym}
use Rattle.hyphenation_hyphenator.proofs.CharacterPlaces.{one_first, first_boundary, first_few}
use Rattle.hyphenation_hyphenator.proofs.hyphenator.boundaries.place_of_character.Goals as goal

pub returns-in-None-clause-value : goal.returns-in-None-clause-value
returns-in-None-clause-value c =
    let none : length c.loop-count.rest.now ≡ 0 = ap length (sym c.chars-chars.ensures.rest) ∙ c.in-None.ensures.steps.0.0 in
    first_few c.args.text.now c.loop-count.rest.now c.loop-count.count c.args.number c.loop-count-test.true none c.utf8.text c.loop-count.invariant

pub loop-count-preserved : goal.loop-count-preserved
loop-count-preserved c =
    let letter = c.in-Some.field-0 in
    let read = sym c.chars-chars.ensures.rest ∙ c.in-Some.ensures.steps.0 ∙ ap (λ l. encode_utf8 letter ++ l) (sym c.as_str-rest.ensures) in
    one_first c.args.text.now c.loop-count.rest.now c.as_str-rest.result.now letter c.loop-count.count read c.loop-count.invariant

pub returns-clause-boundary : goal.returns-clause-boundary
returns-clause-boundary c = first_boundary c.args.text.now c.loop-count.rest.now c.loop-count.count c.loop-count.invariant
