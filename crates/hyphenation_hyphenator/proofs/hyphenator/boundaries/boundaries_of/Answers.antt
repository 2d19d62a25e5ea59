use Rattle.std.proofs.Common.{◌≤◌, ◌-◌, ◌∙◌, ap, sym, max, length, chars, arith, Some}
use Rattle.hyphenation_hyphenator.specs.Places.{place_of_character}
use Rattle.hyphenation_hyphenator.proofs.PlacesFromEnd.{bounds_apart, bounds_in_order}
use Rattle.hyphenation_hyphenator.proofs.hyphenator.boundaries.boundaries_of.Goals as goal

pub returns-then-last-first-clause-value : goal.returns-then-last-first-clause-value
returns-then-last-first-clause-value c =
    let word = c.args.word.now in
    let first = c.place_of_character-first.ensures.value in
    let last = c.in_ok-last.ensures.value ∙ ap (λ n. place_of_character word (length (chars word) - n)) c.max.ensures in
    let enough : max c.args.minima.1 1 ≤ length (chars word) = omega (arith, c.max.ensures, c.in_ok-last.ensures.enough) in
    sym (bounds_apart c.args.minima.0 c.args.minima.1 word enough (omega (arith, first, last, c.if-last-first.true)))

pub returns-clause-value : goal.returns-clause-value
returns-clause-value c =
    let word = c.args.word.now in
    let first = c.place_of_character-first.ensures.value in
    let last = c.in_ok-last.ensures.value ∙ ap (λ n. place_of_character word (length (chars word) - n)) c.max.ensures in
    let enough : max c.args.minima.1 1 ≤ length (chars word) = omega (arith, c.max.ensures, c.in_ok-last.ensures.enough) in
    ap (λ n. Some (n, c.in_ok-last.last)) first ∙ ap (λ n. Some (place_of_character word c.args.minima.0, n)) last
    ∙ sym (bounds_in_order c.args.minima.0 c.args.minima.1 word enough (omega (arith, first, last, c.if-last-first.false)))
