use Rattle.std.proofs.Common.{arith}
use Rattle.std.proofs.lemmas.Grind.{common_steps}
use Rattle.tex_files.proofs.convert.take_file.Goals as goal

pub returns-in_err-words-clause-no_fault : goal.returns-in_err-words-clause-no_fault
returns-in_err-words-clause-no_fault g c = grind (arith, common_steps)

pub returns-in_err-words-clause-appended : goal.returns-in_err-words-clause-appended
returns-in_err-words-clause-appended g c = grind (arith, common_steps)

pub returns-in_err-words-clause-first_fault : goal.returns-in_err-words-clause-first_fault
returns-in_err-words-clause-first_fault g c = grind (arith, common_steps)

pub returns-in_err-take_words-clause-no_fault : goal.returns-in_err-take_words-clause-no_fault
returns-in_err-take_words-clause-no_fault g c = grind (arith, common_steps)

pub returns-in_err-take_words-clause-appended : goal.returns-in_err-take_words-clause-appended
returns-in_err-take_words-clause-appended g c = grind (arith, common_steps)

pub returns-in_err-take_words-clause-first_fault : goal.returns-in_err-take_words-clause-first_fault
returns-in_err-take_words-clause-first_fault g c = grind (arith, common_steps)

pub returns-in-Some-clause-first_fault : goal.returns-in-Some-clause-first_fault
returns-in-Some-clause-first_fault g c = grind (arith, common_steps)

pub returns-in-None-clause-first_fault : goal.returns-in-None-clause-first_fault
returns-in-None-clause-first_fault g c = grind (arith, common_steps)

pub returns-clause-no_fault : goal.returns-clause-no_fault
returns-clause-no_fault g c = grind (arith, common_steps)

pub returns-clause-appended : goal.returns-clause-appended
returns-clause-appended g c = grind (arith, common_steps)

pub returns-clause-first_fault : goal.returns-clause-first_fault
returns-clause-first_fault g c = grind (arith, common_steps)
