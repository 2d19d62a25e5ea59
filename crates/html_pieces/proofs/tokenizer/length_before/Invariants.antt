use Rattle.html_pieces.specs.Private.Quiet.{AreOthers}
use Rattle.html_pieces.proofs.tokenizer.length_before.Given as goal

abbrev pub invariant-loop-i : goal.invariant-loop-i
invariant-loop-i l = AreOthers l.stop l.bytes 0 l.i
