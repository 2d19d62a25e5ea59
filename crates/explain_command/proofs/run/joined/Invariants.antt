use Rattle.std.proofs.Common.{take}
use Rattle.hyphenation_breaks.specs.Borrowed.{texts_now}
use Rattle.explain_command.specs.Explained.{AreJoined, IsExplanationOfNfc}
use Rattle.explain_command.proofs.run.joined.Given as goal

abbrev pub invariant-loop-index : goal.invariant-loop-index
invariant-loop-index l = AreJoined (IsExplanationOfNfc l.dictionary l.style) (texts_now (take l.index l.words)) l.text.items
