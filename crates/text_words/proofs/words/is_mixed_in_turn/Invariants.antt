use Rattle.std.proofs.Common.{◌≡◌, drop}
use Rattle.text_words.specs.Words.{is_mixed_after}
use Rattle.text_words.proofs.words.is_mixed_in_turn.Given as goal

abbrev pub invariant-loop-byte : goal.invariant-loop-byte
invariant-loop-byte l = is_mixed_after l.before (drop l.byte-index l.word) ≡ is_mixed_after 0 l.word
