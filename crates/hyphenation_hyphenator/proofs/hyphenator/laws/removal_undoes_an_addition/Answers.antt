use Rattle.hyphenation_hyphenator.proofs.ExceptionRemoval.{undone}
use Rattle.hyphenation_hyphenator.proofs.hyphenator.laws.removal_undoes_an_addition.Goals as goal

pub returns : goal.returns
returns g c = λ exceptions word listed none. undone exceptions word listed none
