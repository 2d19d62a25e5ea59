use Rattle.std.proofs.Common.{◌≡◌}
use Rattle.libhyphen_rule.specs.Parts.{digits_with}
use Rattle.libhyphen_rule.proofs.parts.put_digits.Given as goal

abbrev pub invariant-loop-j : goal.invariant-loop-j
invariant-loop-j l = l.digits ≡ digits_with l.initial.digits l.begin l.j l.part
