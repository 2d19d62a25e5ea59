use Rattle.std.proofs.Common.{◌≡◌, ◌<◌, ◌^◌, drop, true}
use Rattle.std.specs.List.{fold, list_all}
use Rattle.hyphenation_grammar.specs.Lines.{number, is_digit, with_digit}
use Rattle.hyphenation_grammar.proofs.lines.digits_value.Given as goal

abbrev pub invariant-loop-byte : goal.invariant-loop-byte
invariant-loop-byte l = (fold with_digit l.value (drop l.byte-index l.text) ≡ number l.text) × (list_all is_digit (drop l.byte-index l.text) ≡ true) × (l.value < 2 ^ 64)
