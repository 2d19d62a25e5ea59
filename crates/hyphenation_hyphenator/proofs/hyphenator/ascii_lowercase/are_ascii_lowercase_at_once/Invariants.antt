use Rattle.std.proofs.Common.{◌≡◌, ◌&&◌, take}
use Rattle.std.specs.Char.{is_ascii_lowercase}
use Rattle.std.specs.List.{list_all}
use Rattle.hyphenation_hyphenator.proofs.hyphenator.ascii_lowercase.are_ascii_lowercase_at_once.Given as goal

abbrev pub invariant-loop-at : goal.invariant-loop-at
invariant-loop-at g l = l.all ≡ (list_all is_ascii_lowercase (take l.at l.first) && list_all is_ascii_lowercase (take l.at l.last))
