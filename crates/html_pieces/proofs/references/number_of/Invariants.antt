use Rattle.std.proofs.Common.{◌≡◌, ◌≤◌, drop, map}
use Rattle.std.specs.Char.{digit_value}
use Rattle.std.specs.Int.Digits.{number_from_digits_after}
use Rattle.html_pieces.specs.References.{base_of, number_of}
use Rattle.html_pieces.proofs.NumberSteps.{no_character, capped}
use Rattle.html_pieces.proofs.references.number_of.Given as goal

abbrev pub invariant-loop-digit : goal.invariant-loop-digit
invariant-loop-digit l = record {
  within : l.number ≤ no_character;
  told : capped (number_from_digits_after (base_of l.hexadecimal) l.number (map digit_value (drop l.digit-index l.digits))) ≡ capped (number_of l.hexadecimal l.digits);
}
