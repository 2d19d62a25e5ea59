use Rattle.html_pieces.proofs.WholePages.{pieces_join_to_page}
use Rattle.html_pieces.proofs.laws.pieces_join.Goals as goal

pub returns : goal.returns
returns c = pieces_join_to_page
