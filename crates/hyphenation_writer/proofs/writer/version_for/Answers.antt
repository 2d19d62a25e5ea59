use Rattle.std.proofs.Common.{arith}
use Rattle.std.proofs.lemmas.Grind.{common_steps}
use Rattle.hyphenation_writer.proofs.writer.version_for.Goals as goal

pub loop-entries-preserved : goal.loop-entries-preserved
loop-entries-preserved g c = grind (arith, common_steps)
