use Rattle.std.proofs.Common.{chars, sym, ap, ◌∙◌, arith}
use Rattle.std.specs.List.{list_all}
use Rattle.hyphenation_hyphenator.specs.Folding.{fold_case}
use Rattle.hyphenation_hyphenator.specs.Private.InPlace.{folds_in_place}
use Rattle.hyphenation_hyphenator.proofs.InPlace.{folded_letter, folded_pair, folded_all}
use Rattle.hyphenation_hyphenator.proofs.case_folding.fold_in_turn.Goals as goal

pub loop-at-preserved-then-first-lt128 : goal.loop-at-preserved-then-first-lt128
loop-at-preserved-then-first-lt128 c = folded_letter c.as_bytes-bytes.result.now c.loop-at.folded c.loop-at.at c.to_ascii_lowercase.result c.loop-at-test.true c.if-first-lt128.true c.to_ascii_lowercase.ensures.value c.loop-at.invariant

pub loop-at-preserved : goal.loop-at-preserved
loop-at-preserved c =
    let told = c.in-Some.ensures in
    folded_pair c.as_bytes-bytes.result.now c.loop-at.folded c.loop-at.at c.in-Some.first c.in-Some.second (omega arith) told.encoded.0 told.encoded.1.0 told.in_place told.folded c.loop-at.invariant

pub returns-clause-in_place : goal.returns-clause-in_place
returns-clause-in_place c = λ _. ap (λ bs. list_all folds_in_place (chars bs)) (sym c.as_bytes-bytes.ensures.value) ∙ (folded_all c.as_bytes-bytes.result.now c.loop-at.folded c.loop-at.at c.loop-at-test.false c.loop-at.invariant).0

pub returns-clause-folded : goal.returns-clause-folded
returns-clause-folded c = λ _. (folded_all c.as_bytes-bytes.result.now c.loop-at.folded c.loop-at.at c.loop-at-test.false c.loop-at.invariant).1 ∙ ap fold_case c.as_bytes-bytes.ensures.value
