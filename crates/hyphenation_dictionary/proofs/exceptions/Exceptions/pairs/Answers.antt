use Rattle.std.proofs.Common.{rules}
use Rattle.hyphenation_dictionary.proofs.exceptions.Exceptions.pairs.Goals as goal

pub returns : goal.returns
returns g c = rw (← c.self.view_is) (search rules)
