use Rattle.html_pieces.proofs.FrontSteps.{Led}
use Rattle.html_pieces.proofs.forms.root_tag.Given as goal

abbrev pub invariant-loop-i : goal.invariant-loop-i
invariant-loop-i l = Led l.page l.state l.start l.i
