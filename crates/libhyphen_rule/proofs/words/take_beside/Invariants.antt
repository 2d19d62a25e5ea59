use Rattle.std.proofs.Common.{◌≡◌, map, take}
use Rattle.libhyphen_rule.specs.Words.{digits_beside}
use Rattle.libhyphen_rule.proofs.words.take_beside.Given as goal

abbrev pub invariant-loop-part : goal.invariant-loop-part
invariant-loop-part l =
    l.digits ≡ digits_beside (map (λ part. part.items) (take l.part-index l.parts)) l.instead l.text l.fn.digits
