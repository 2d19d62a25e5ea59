use Rattle.html_pieces.proofs.SameForm.{same_form}
use Rattle.html_pieces.proofs.laws.other_texts_leave_the_form.Goals as goal

pub returns : goal.returns
returns c = same_form
