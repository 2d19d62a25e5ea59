use Rattle.html_pieces.specs.Private.Quiet.{AreAlphanumeric}
use Rattle.html_pieces.proofs.tokenizer.alphanumeric_length.Given as goal

abbrev pub invariant-loop-i : goal.invariant-loop-i
invariant-loop-i l = AreAlphanumeric l.bytes 0 l.i
