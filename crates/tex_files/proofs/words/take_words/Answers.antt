use Rattle.std.proofs.Common.{arith}
use Rattle.std.proofs.lemmas.Grind.{common_steps}
use Rattle.tex_files.proofs.words.take_words.Goals as goal

pub loop-word-init : goal.loop-word-init
loop-word-init g c = grind (arith, common_steps)

pub offset_bounds-words-word-index : goal.offset_bounds-words-word-index
offset_bounds-words-word-index g c = grind (arith, common_steps)

pub returns-in-Err-Fails-clause-first_fault : goal.returns-in-Err-Fails-clause-first_fault
returns-in-Err-Fails-clause-first_fault g c = grind (arith, common_steps)

pub loop-word-preserved : goal.loop-word-preserved
loop-word-preserved g c = grind (arith, common_steps)

pub returns-clause-pass_tests : goal.returns-clause-pass_tests
returns-clause-pass_tests g c = grind (arith, common_steps)

pub returns-clause-appended : goal.returns-clause-appended
returns-clause-appended g c = grind (arith, common_steps)
