use Rattle.hyphenation_breaks.proofs.Boundaries.{boundary_test, boundary_from_test}
use Rattle.hyphenation_breaks.proofs.laws.boundary_is_of_chars.Goals as goal

pub returns : goal.returns
returns c = λ text at. (boundary_from_test text at, boundary_test text at)
