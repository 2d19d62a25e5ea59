use Rattle.std.proofs.Common.{◌≡◌, drop}
use Rattle.std.specs.List.{list_all}
use Rattle.hyphenation_reader.specs.Private.LineAnswers.{suits_word}
use Rattle.hyphenation_reader.proofs.items.suit_word.Given as goal

abbrev pub invariant-loop-b : goal.invariant-loop-b
invariant-loop-b l = list_all (suits_word l.form l.word) (drop l.b-index l.listed) ≡ list_all (suits_word l.form l.word) l.listed
