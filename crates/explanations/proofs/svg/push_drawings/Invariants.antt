use Rattle.std.proofs.Common.{◌≡◌, ◌++◌, drop, map}
use Rattle.std.specs.List.{concat}
use Rattle.explanations.specs.Svg.{drawn}
use Rattle.explanations.proofs.svg.push_drawings.Given as goal

abbrev pub invariant-loop-drawing : goal.invariant-loop-drawing
invariant-loop-drawing l = l.text.items ++ concat (map drawn (drop l.drawing-index l.drawings)) ≡ l.initial.text.items ++ concat (map drawn l.drawings)
