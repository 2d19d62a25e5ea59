use Rattle.language_search.proofs.LetterCase.{no_case}
use Rattle.language_search.proofs.laws.paths_have_no_case.Goals as goal

pub returns : goal.returns
returns c = no_case
