use Rattle.std.proofs.Common.{◌≡◌, drop}
use Rattle.written_texts.specs.Prefixes.{signs_length}
use Rattle.written_texts.proofs.Prefixes.{upto}
use Rattle.written_texts.proofs.prefix.signs_length.Given as goal

-- The signs up to here, and those that follow.
abbrev pub invariant-loop-i : goal.invariant-loop-i
invariant-loop-i l = signs_length l.text ≡ upto l.i (signs_length (drop l.i l.text)) l.length
