use Rattle.std.proofs.Common.{◌≡◌}
use Rattle.libhyphen_rule.specs.Parts.{changes_with}
use Rattle.libhyphen_rule.proofs.parts.put_changes.Given as goal

abbrev pub invariant-loop-j : goal.invariant-loop-j
invariant-loop-j l = l.changes ≡ changes_with l.initial.changes l.begin l.j l.part
