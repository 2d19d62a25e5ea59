use Rattle.std.proofs.Common.{rules, tests}
use Rattle.std.proofs.lemmas.List.Sorted.{answers_always}
use Rattle.hyphenation_hyphenator.proofs.Uppercase.{found_by, is_first}
use Rattle.hyphenation_hyphenator.proofs.case_folding.first_uppercase.Goals as goal

pub returns-clause-none_without : goal.returns-clause-none_without
returns-clause-none_without c =
    let found = found_by _ c.args.text.now c.find.result c.find.ensures.cases (answers_always _ _ _ (λ f a r q k. search (rules, tests))) in
    (is_first c.args.text.now c.find.result c.utf8.text found).0

pub returns-clause-none_before : goal.returns-clause-none_before
returns-clause-none_before c =
    let found = found_by _ c.args.text.now c.find.result c.find.ensures.cases (answers_always _ _ _ (λ f a r q k. search (rules, tests))) in
    (is_first c.args.text.now c.find.result c.utf8.text found).1

pub returns-clause-uppercase : goal.returns-clause-uppercase
returns-clause-uppercase c =
    let found = found_by _ c.args.text.now c.find.result c.find.ensures.cases (answers_always _ _ _ (λ f a r q k. search (rules, tests))) in
    (is_first c.args.text.now c.find.result c.utf8.text found).2
