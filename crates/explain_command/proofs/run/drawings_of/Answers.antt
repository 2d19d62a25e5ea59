use Rattle.explanations.specs.Svg.{drawn}
use Rattle.explain_command.proofs.Drawings.{drawn_more}
use Rattle.explain_command.specs.Explained.{IsDrawingOfNfc}
use Rattle.explain_command.proofs.run.drawings_of.Goals as goal

pub loop-word-preserved : goal.loop-word-preserved
loop-word-preserved c =
    drawn_more (IsDrawingOfNfc c.args.dictionary.now) drawn c.args.words.now c.loop-word.word-index _ c.loop-word.drawings.items c.push.new.self.items _
    c.loop-word-test.true c.loop-word.invariant c.in_ok-nfc_drawing.ensures c.in_ok-push.ensures.items
