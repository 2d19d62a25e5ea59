use Rattle.hyphenation_writer.proofs.LeastVersion.{version-least}
use Rattle.hyphenation_writer.proofs.laws.version_is_least.Goals as goal

pub returns : goal.returns
returns g c = version-least
