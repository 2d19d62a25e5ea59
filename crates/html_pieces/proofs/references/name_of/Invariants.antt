use Rattle.std.proofs.Common.{◌≡◌, ◌++◌, take, drop, take_while}
use Rattle.html_pieces.specs.Bytes.{is_alphanumeric}
use Rattle.html_pieces.proofs.references.name_of.Given as goal

abbrev pub invariant-loop-i : goal.invariant-loop-i
invariant-loop-i l =
    take_while is_alphanumeric l.bytes ≡ take l.i l.bytes ++ take_while is_alphanumeric (drop l.i l.bytes)
