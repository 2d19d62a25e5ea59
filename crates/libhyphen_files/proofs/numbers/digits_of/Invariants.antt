use Rattle.std.proofs.Common.{◌≡◌, ◌++◌, take, drop, take_while}
use Rattle.std.specs.Char.{is_ascii_digit}
use Rattle.libhyphen_files.proofs.numbers.digits_of.Given as goal

abbrev pub invariant-loop-i : goal.invariant-loop-i
invariant-loop-i l =
    take_while is_ascii_digit l.text ≡ take l.i l.text ++ take_while is_ascii_digit (drop l.i l.text)
