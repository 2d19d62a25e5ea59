use Rattle.std.proofs.Common.{arith}
use Rattle.std.proofs.lemmas.Grind.{common_steps}
use Rattle.tex_files.proofs.word_notes.push_all.Goals as goal

pub returns : goal.returns
returns c = grind (arith, common_steps)
