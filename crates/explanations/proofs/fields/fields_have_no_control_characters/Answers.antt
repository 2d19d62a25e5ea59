use Rattle.explanations.proofs.Fielding.{text_free}
use Rattle.explanations.proofs.fields.fields_have_no_control_characters.Goals as goal

pub returns : goal.returns
returns c text = text_free 0 text
