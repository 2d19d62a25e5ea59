use Rattle.std.proofs.Common.{rules, ◌≡◌, pos, ◌-ℤ◌, arith}
use Rattle.std.specs.Int.{saturate_unsigned, w64}
use Rattle.hyphenation_hyphenator.specs.Folding.{fold_case, delta_below}
use Rattle.hyphenation_hyphenator.proofs.Folds.{fold_is_utf8}
use Rattle.hyphenation_hyphenator.proofs.Places.{place_of_boundary}
use Rattle.hyphenation_hyphenator.proofs.Shifts.{carried_back}
use Rattle.hyphenation_hyphenator.proofs.case_folding.realign.Goals as goal

pub returns-clause-carried_back : goal.returns-clause-carried_back
returns-clause-carried_back c = λ original u l e b.
    let value : c.shifted_back.result ≡ saturate_unsigned w64 (pos c.args.i -ℤ delta_below c.args.shifts.now c.args.i) = search rules in
    carried_back original _ c.args.i c.shifted_back.result c.args.shifts.now u (omega arith) e (place_of_boundary (fold_case original) c.args.i (fold_is_utf8 original u) b) value

pub returns-clause-same_character : goal.returns-clause-same_character
returns-clause-same_character c = λ original u l e j k.
    let value : c.shifted_back.result ≡ saturate_unsigned w64 (pos c.args.i -ℤ delta_below c.args.shifts.now c.args.i) = search rules in
    carried_back original j c.args.i c.shifted_back.result c.args.shifts.now u (omega arith) e k value
