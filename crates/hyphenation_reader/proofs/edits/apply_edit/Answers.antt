use Rattle.std.proofs.Common.{arith, refl}
use Rattle.std.proofs.lemmas.Grind.{common_steps}
use Rattle.hyphenation_reader.proofs.EditsLemmas.{after_sign}
use Rattle.hyphenation_reader.proofs.edits.apply_edit.Goals as goal

pub add-requires : goal.add-requires
add-requires g c = after_sign 43 _ _ _ (omega arith) c.in-Some-eq43-default.field-0-0-test c.in-Some-eq43-default.ensures.cases.0 c.as_bytes-edit.ensures.utf8

pub remove-requires : goal.remove-requires
remove-requires g c = after_sign 45 _ _ _ (omega arith) c.in-Some-eq45-default.field-0-0-test c.in-Some-eq45-default.ensures.cases.0 c.as_bytes-edit.ensures.utf8

pub returns-then-has_line_feed-clause-good : goal.returns-then-has_line_feed-clause-good
returns-then-has_line_feed-clause-good g c = grind (arith, common_steps)

pub returns-then-has_line_feed-clause-applied : goal.returns-then-has_line_feed-clause-applied
returns-then-has_line_feed-clause-applied g c = λ e. absurd cc

pub returns-then-has_line_feed-clause-unchanged_if_refused : goal.returns-then-has_line_feed-clause-unchanged_if_refused
returns-then-has_line_feed-clause-unchanged_if_refused g c = λ _. refl

pub returns-in-Some-eq43-default-clause-good : goal.returns-in-Some-eq43-default-clause-good
returns-in-Some-eq43-default-clause-good g c = grind (arith, common_steps)

pub returns-in-Some-eq43-default-clause-applied : goal.returns-in-Some-eq43-default-clause-applied
returns-in-Some-eq43-default-clause-applied g c = grind (arith, common_steps)

pub returns-in-Some-eq43-default-clause-unchanged_if_refused : goal.returns-in-Some-eq43-default-clause-unchanged_if_refused
returns-in-Some-eq43-default-clause-unchanged_if_refused g c = c.add.ensures.unchanged_if_refused

pub returns-in-Some-eq43-default-clause-unchanged_on_error : goal.returns-in-Some-eq43-default-clause-unchanged_on_error
returns-in-Some-eq43-default-clause-unchanged_on_error g c = c.add.ensures.unchanged_on_error

pub returns-in-Some-eq45-default-clause-good : goal.returns-in-Some-eq45-default-clause-good
returns-in-Some-eq45-default-clause-good g c = grind (arith, common_steps)

pub returns-in-Some-eq45-default-clause-applied : goal.returns-in-Some-eq45-default-clause-applied
returns-in-Some-eq45-default-clause-applied g c = grind (arith, common_steps)

pub returns-in-Some-eq45-default-clause-unchanged_if_refused : goal.returns-in-Some-eq45-default-clause-unchanged_if_refused
returns-in-Some-eq45-default-clause-unchanged_if_refused g c = c.remove.ensures.unchanged_if_refused

pub returns-in-Some-eq45-default-clause-unchanged_on_error : goal.returns-in-Some-eq45-default-clause-unchanged_on_error
returns-in-Some-eq45-default-clause-unchanged_on_error g c = c.remove.ensures.unchanged_on_error
