use Rattle.std.proofs.Common.{map, take}
use Rattle.std.specs.List.{AllZip}
use Rattle.hyphenation_breaks.specs.Borrowed.{texts_now}
use Rattle.explanations.specs.Svg.{drawn}
use Rattle.explain_command.specs.Explained.{IsDrawingOfNfc}
use Rattle.explain_command.proofs.run.drawings_of.Given as goal

abbrev pub invariant-loop-word : goal.invariant-loop-word
invariant-loop-word l = AllZip (IsDrawingOfNfc l.dictionary) (texts_now (take l.word-index l.words)) (map drawn l.drawings.items)
