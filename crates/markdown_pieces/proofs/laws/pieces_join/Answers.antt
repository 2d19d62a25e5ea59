use Rattle.markdown_pieces.proofs.WholeTexts.{pieces_join_to_text}
use Rattle.markdown_pieces.proofs.laws.pieces_join.Goals as goal

pub returns : goal.returns
returns c = pieces_join_to_text
