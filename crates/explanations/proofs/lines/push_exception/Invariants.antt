use Rattle.std.proofs.Common.{◌≡◌, ◌++◌, drop, map, flat_map}
use Rattle.explanations.specs.Lines.{break_field}
use Rattle.explanations.proofs.lines.push_exception.Given as goal

abbrev pub invariant-loop-b : goal.invariant-loop-b
invariant-loop-b g l = l.text.items ++ flat_map break_field (map g.B.Break.meaning (drop l.b-index l.listed)) ≡ l.initial.text.items ++ flat_map break_field (map g.B.Break.meaning l.listed)
