use Rattle.std.proofs.Common.{◌+◌, ◌*◌, ◌≤◌, map, drop, get_or, ap, sym, subst, ◌∙◌}
use Rattle.std.specs.Char.{digit_value}
use Rattle.std.specs.Int.Digits.{number_from_digits_after}
use Rattle.html_pieces.specs.References.{base_of}
use Rattle.html_pieces.proofs.NumberSteps.{no_character, capped, capped_within, capped_after}
use Rattle.html_pieces.proofs.Slices.{drop_more}
use Rattle.html_pieces.proofs.references.number_of.Goals as goal

pub loop-digit-preserved : goal.loop-digit-preserved
loop-digit-preserved c =
    let base = base_of c.args.hexadecimal in
    let digits = c.args.digits.now in
    let i = c.loop-digit.digit-index in
    let next = c.loop-digit.number * base + digit_value (get_or digits i 0) in
    record {
      within = subst (λ m. m ≤ no_character) (sym c.number_with_digit-number.ensures) (capped_within next);
      told = ap (λ m. capped (number_from_digits_after base m (map digit_value (drop (i + 1) digits)))) c.number_with_digit-number.ensures
          ∙ capped_after c.args.hexadecimal next (map digit_value (drop (i + 1) digits))
          ∙ sym (ap (λ xs. capped (number_from_digits_after base c.loop-digit.number (map digit_value xs))) (drop_more digits i c.loop-digit-test.true))
          ∙ c.loop-digit.invariant.told;
    }
