use Rattle.markdown_pieces.proofs.WholeTexts.{text_utf8}
use Rattle.markdown_pieces.proofs.laws.pieces_are_utf8.Goals as goal

pub returns : goal.returns
returns c = text_utf8
