use Rattle.std.proofs.Common.{arith}
use Rattle.std.proofs.lemmas.Grind.{common_steps}
use Rattle.tex_files.proofs.spelling.letters_and_entries.Goals as goal

pub loop-b-preserved : goal.loop-b-preserved
loop-b-preserved g c = grind (arith, common_steps)
