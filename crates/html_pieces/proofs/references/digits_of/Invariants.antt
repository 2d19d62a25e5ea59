use Rattle.std.proofs.Common.{◌≡◌, ◌++◌, take, drop, take_while}
use Rattle.html_pieces.specs.References.{is_digit}
use Rattle.html_pieces.proofs.references.digits_of.Given as goal

abbrev pub invariant-loop-i : goal.invariant-loop-i
invariant-loop-i l =
    take_while (is_digit l.hexadecimal) l.bytes ≡ take l.i l.bytes ++ take_while (is_digit l.hexadecimal) (drop l.i l.bytes)
