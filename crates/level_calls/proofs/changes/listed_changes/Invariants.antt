use Rattle.std.proofs.Common.{◌≡◌, take}
use Rattle.libhyphen_rule.specs.Found.{placed_all}
use Rattle.level_calls.specs.Changes.{listed_changes}
use Rattle.level_calls.proofs.changes.listed_changes.Given as goal

abbrev pub invariant-loop-character : goal.invariant-loop-character
invariant-loop-character l = l.listed.items ≡ listed_changes (placed_all (take l.character l.changes))
