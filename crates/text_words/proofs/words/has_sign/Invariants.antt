use Rattle.std.proofs.Common.{◌≡◌, drop}
use Rattle.std.specs.List.{list_any}
use Rattle.text_words.specs.Words.{is_sign}
use Rattle.text_words.proofs.words.has_sign.Given as goal

abbrev pub invariant-loop-byte : goal.invariant-loop-byte
invariant-loop-byte l = list_any is_sign (drop l.byte-index l.text) ≡ list_any is_sign l.text
