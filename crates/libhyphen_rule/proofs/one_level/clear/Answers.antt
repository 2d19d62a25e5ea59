use Rattle.std.proofs.Common.{◌∙◌, ℕ, ap, arith}
use Rattle.std.specs.Prelude.{replicate}
use Rattle.std.proofs.Common.{Option, None}
use Rattle.libhyphen_rule.specs.OneLevel.{ChangeAt}
use Rattle.libhyphen_rule.proofs.PlacedChanges.{all_none}
use Rattle.libhyphen_rule.proofs.one_level.clear.Goals as goal

pub returns : goal.returns
returns c =
    all_none c.loop-change.changes (λ k d next_level. c.loop-change.invariant.none k d (omega arith))
    ∙ ap (λ (n : ℕ). replicate {A = Option ChangeAt} n None) c.loop-change.invariant.len
