use Rattle.html_pieces.proofs.ReadSteps.{read_later}
use Rattle.html_pieces.proofs.elements.language_read.Goals as goal

pub returns : goal.returns
returns c = read_later c.has_ampersand.result c.args.value.now c.has_ampersand.ensures
