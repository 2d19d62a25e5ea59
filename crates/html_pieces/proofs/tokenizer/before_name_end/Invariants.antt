use Rattle.std.proofs.Common.{◌≡◌, ◌++◌, take, drop, take_while, not}
use Rattle.html_pieces.specs.Bytes.{ends_name}
use Rattle.html_pieces.proofs.tokenizer.before_name_end.Given as goal

abbrev pub invariant-loop-i : goal.invariant-loop-i
invariant-loop-i l =
    take_while (λ b. not (ends_name b)) l.bytes ≡ take l.i l.bytes ++ take_while (λ b. not (ends_name b)) (drop l.i l.bytes)
