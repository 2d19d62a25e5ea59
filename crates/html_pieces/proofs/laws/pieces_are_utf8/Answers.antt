use Rattle.html_pieces.proofs.WholePages.{page_utf8}
use Rattle.html_pieces.proofs.laws.pieces_are_utf8.Goals as goal

pub returns : goal.returns
returns c = page_utf8
