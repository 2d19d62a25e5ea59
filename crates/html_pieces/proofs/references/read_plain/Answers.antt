use Rattle.std.proofs.Common.{sym}
use Rattle.html_pieces.proofs.ReadSteps.{read_plain}
use Rattle.html_pieces.proofs.references.read_plain.Goals as goal

pub returns : goal.returns
returns c = sym (read_plain c.args.value.now c.requires)
