use Rattle.explain_command.proofs.Joined.{joined_word}
use Rattle.std.proofs.Common.{◌++◌, ◌∙◌, List, ℕ, ap}
use Rattle.explain_command.specs.Explained.{IsExplanationOfNfc}
use Rattle.explain_command.specs.Private.Joined.{gap_before}
use Rattle.explain_command.proofs.run.joined.Goals as goal

pub loop-index-preserved : goal.loop-index-preserved
loop-index-preserved c =
    joined_word (IsExplanationOfNfc c.args.dictionary.now c.args.style) c.args.words.now c.loop-index.index _ c.loop-index.text.items c.push_after.new.text.items c.in_ok-explained.explained.items
    c.loop-index-test.true c.loop-index.invariant c.in_ok-explained.ensures
    (c.in_ok-push_after.ensures ∙ ap (λ (t : List ℕ). c.loop-index.text.items ++ (gap_before c.loop-index.index ++ t)) c.deref.ensures.value)
