use Rattle.std.proofs.Common.{rules, ◌≡◌, false, sym, ◌∙◌}
use Rattle.hyphenation_hyphenator.specs.Folding.{has_uppercase}
use Rattle.hyphenation_hyphenator.proofs.Folds.{fold_stays}
use Rattle.hyphenation_hyphenator.proofs.Refolding.{stays_without_shifts}
use Rattle.hyphenation_hyphenator.proofs.case_folding.refold.Goals as goal

pub returns-in-None-clause-folded : goal.returns-in-None-clause-folded
returns-in-None-clause-folded c = let none : has_uppercase c.args.original.now ≡ false = search rules in sym (fold_stays c.args.original.now c.utf8.original none)

pub returns-in-None-clause-shifts : goal.returns-in-None-clause-shifts
returns-in-None-clause-shifts c = let none : has_uppercase c.args.original.now ≡ false = search rules in c.new.ensures.items ∙ sym (stays_without_shifts c.args.original.now none)
