use Rattle.std.proofs.Common.{◌≡◌, ◌-◌, ◌++◌, ◌∙◌, ℕ, length, chars, encode_utf8, ap, sym, arith}
use Rattle.hyphenation_hyphenator.specs.Places.{place_of_character}
use Rattle.hyphenation_hyphenator.proofs.PlacesFromEnd.{one_last, last_few, last_place, last_boundary}
use Rattle.hyphenation_hyphenator.proofs.hyphenator.boundaries.place_of_character_from_end.Goals as goal

pub returns-in_err-next_back-clause-few : goal.returns-in_err-next_back-clause-few
returns-in_err-next_back-clause-few c =
    let none : length c.loop-count.rest.now ≡ 0 = ap length (sym c.chars-chars.ensures.rest) ∙ c.in_err-next_back.ensures.steps.0 in
    rw c.from_residual.ensures (last_few c.args.text.now c.loop-count.rest.now c.loop-count.count c.args.number c.loop-count-test.true none c.loop-count.invariant)

pub loop-count-preserved : goal.loop-count-preserved
loop-count-preserved c =
    let letter = c.in_ok-next_back.field-0 in
    let read = sym c.chars-chars.ensures.rest ∙ c.in_ok-next_back.ensures.steps ∙ ap (λ l. l ++ encode_utf8 letter) (sym c.as_str-rest.ensures) in
    one_last c.args.text.now c.loop-count.rest.now c.as_str-rest.result.now letter c.loop-count.count c.as_str-rest.utf8 read c.loop-count.invariant

pub returns-clause-value : goal.returns-clause-value
returns-clause-value c =
    let text = c.args.text.now in
    let all : c.loop-count.count ≡ c.args.number = omega (arith, c.loop-count-test.false, c.loop-count.auto.count-end) in
    last_place text c.loop-count.rest.now c.loop-count.count c.loop-count.invariant ∙ ap (λ (n : ℕ). place_of_character text (length (chars text) - n)) all

pub returns-clause-boundary : goal.returns-clause-boundary
returns-clause-boundary c = last_boundary c.args.text.now c.loop-count.rest.now c.loop-count.count c.utf8.text c.loop-count.invariant
