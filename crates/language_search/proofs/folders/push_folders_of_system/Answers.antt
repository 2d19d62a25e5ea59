use Rattle.language_search.proofs.Pushed.{two_pushed}
use Rattle.language_search.proofs.folders.push_folders_of_system.Goals as goal

pub returns : goal.returns
returns c = two_pushed _ _ _ _ _ _ _ c.in_ok-push.ensures c.in_ok-push-2.ensures c.in_ok-from_str.ensures.ok c.in_ok-from_str-2.ensures.ok
