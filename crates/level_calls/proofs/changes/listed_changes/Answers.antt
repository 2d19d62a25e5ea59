use Rattle.std.proofs.Common.{◌++◌, Some, None, ap, sym, ◌∙◌, append-nil}
use Rattle.std.specs.Prelude.{option_map}
use Rattle.libhyphen_rule.specs.Found.{placed}
use Rattle.level_calls.specs.Changes.{change_listed}
use Rattle.level_calls.proofs.Listing.{listed_more}
use Rattle.level_calls.proofs.changes.listed_changes.Goals as goal
use Rattle.level_calls.proofs.changes.listed_changes.Goals.{in-Some+in_ok-push, in_default}

pub loop-character-preserved : goal.loop-character-preserved
loop-character-preserved c = elim c.match-change.branch [
  | in-Some+in_ok-push w ↦
      ap (λ v. v.items) w.listed-is ∙ w.in_ok-push.ensures.items ∙ ap (λ l. l ++ change_listed (c.loop-character.character, option_map placed (Some w.in-Some.change))) c.loop-character.invariant
      ∙ sym (listed_more c.args.changes.now c.loop-character.character None (Some w.in-Some.change) c.loop-character-test.true w.in-Some.is)
  | in_default w ↦
      ap (λ v. v.items) w.listed-is ∙ c.loop-character.invariant ∙ sym (append-nil _)
      ∙ sym (listed_more c.args.changes.now c.loop-character.character None None c.loop-character-test.true w.in_default.is)
]
