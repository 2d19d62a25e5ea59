use Rattle.markdown_pieces.proofs.OtherTexts.{other_texts}
use Rattle.markdown_pieces.proofs.laws.other_texts_are_cut_alike.Goals as goal

pub returns : goal.returns
returns c = other_texts
