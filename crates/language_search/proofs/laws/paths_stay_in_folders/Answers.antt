use Rattle.language_search.proofs.StaysInside.{paths_stay}
use Rattle.language_search.proofs.laws.paths_stay_in_folders.Goals as goal

pub returns : goal.returns
returns c = paths_stay
