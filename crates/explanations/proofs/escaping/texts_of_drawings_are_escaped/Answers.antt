use Rattle.explanations.proofs.EscapedTexts.{text_escaped}
use Rattle.explanations.proofs.escaping.texts_of_drawings_are_escaped.Goals as goal

pub returns : goal.returns
returns c = λ text. text_escaped 0 0 text
