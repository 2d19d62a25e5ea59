use Rattle.language_search.proofs.Pushed.{two_pushed}
use Rattle.language_search.proofs.paths.push_dictionaries.Goals as goal

pub returns : goal.returns
returns c = two_pushed _ _ _ _ _ _ _ c.in_ok-push.ensures c.in_ok-push-2.ensures c.in_ok-format.ensures.ok c.in_ok-format-2.ensures.ok
