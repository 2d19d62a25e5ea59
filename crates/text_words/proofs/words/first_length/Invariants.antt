use Rattle.std.proofs.Common.{◌≡◌, ◌≤◌, take, drop}
use Rattle.text_words.specs.Words.{words_after, words_of_piece}
use Rattle.text_words.proofs.words.first_length.Given as goal

-- No byte before the place is a sign.
abbrev pub invariant-loop-at : goal.invariant-loop-at
invariant-loop-at l = (1 ≤ l.at) × (words_of_piece l.piece ≡ words_after (take l.at l.piece) (drop l.at l.piece))
