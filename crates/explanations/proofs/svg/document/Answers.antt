use Rattle.explanations.proofs.svg.document.Goals as goal

pub returns : goal.returns
returns c = (c.loop-drawing.width, (c.in_ok-height.height, c.in_ok-text.ensures))
