use Rattle.std.proofs.Common.{arith, refl}
use Rattle.std.proofs.lemmas.Grind.{common_steps}
use Rattle.hyphenation_reader.proofs.edits.remove.Goals as goal

pub returns-in_err-read_exception-clause-good : goal.returns-in_err-read_exception-clause-good
returns-in_err-read_exception-clause-good g c = grind (arith, common_steps)

pub returns-in_err-read_exception-clause-applied : goal.returns-in_err-read_exception-clause-applied
returns-in_err-read_exception-clause-applied g c = grind (arith, common_steps)

pub returns-in_err-read_exception-clause-unchanged_if_refused : goal.returns-in_err-read_exception-clause-unchanged_if_refused
returns-in_err-read_exception-clause-unchanged_if_refused g c = grind (arith, common_steps)

pub returns-in_err-read_exception-clause-unchanged_on_error : goal.returns-in_err-read_exception-clause-unchanged_on_error
returns-in_err-read_exception-clause-unchanged_on_error g c = grind (arith, common_steps)

pub returns-then-not-is_empty-clause-good : goal.returns-then-not-is_empty-clause-good
returns-then-not-is_empty-clause-good g c = grind (arith, common_steps)

pub returns-then-not-is_empty-clause-applied : goal.returns-then-not-is_empty-clause-applied
returns-then-not-is_empty-clause-applied g c = λ e. absurd cc

pub returns-then-not-is_empty-clause-unchanged_if_refused : goal.returns-then-not-is_empty-clause-unchanged_if_refused
returns-then-not-is_empty-clause-unchanged_if_refused g c = λ _. refl

pub returns-in-None-clause-good : goal.returns-in-None-clause-good
returns-in-None-clause-good g c = grind (arith, common_steps)

pub returns-in-None-clause-applied : goal.returns-in-None-clause-applied
returns-in-None-clause-applied g c = λ e. absurd cc

pub returns-in-None-clause-unchanged_if_refused : goal.returns-in-None-clause-unchanged_if_refused
returns-in-None-clause-unchanged_if_refused g c = λ _. refl

pub returns-else-not-is_empty-clause-good : goal.returns-else-not-is_empty-clause-good
returns-else-not-is_empty-clause-good g c = grind (arith, common_steps)

pub returns-else-not-is_empty-clause-applied : goal.returns-else-not-is_empty-clause-applied
returns-else-not-is_empty-clause-applied g c = grind (arith, common_steps)

pub returns-else-not-is_empty-clause-unchanged_if_refused : goal.returns-else-not-is_empty-clause-unchanged_if_refused
returns-else-not-is_empty-clause-unchanged_if_refused g c = λ e. absurd cc

pub read_exception-requires : goal.read_exception-requires
read_exception-requires g c = c.requires
