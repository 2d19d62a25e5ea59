use Rattle.std.proofs.Common.{◌≡◌, take}
use Rattle.libhyphen_rule.specs.Found.{placed_all}
use Rattle.level_calls.specs.Changes.{listed_texts}
use Rattle.level_calls.proofs.changes.listed_texts.Given as goal

abbrev pub invariant-loop-change : goal.invariant-loop-change
invariant-loop-change l = l.texts.items ≡ listed_texts (placed_all (take l.change-index l.changes))
