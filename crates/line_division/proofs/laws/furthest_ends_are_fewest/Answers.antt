use Rattle.std.proofs.Common.{refl, inl, arith}
use Rattle.line_division.proofs.Greediest.{ahead, furthest_divide}
use Rattle.line_division.proofs.laws.furthest_ends_are_fewest.Goals as goal

pub returns-clause-divide : goal.returns-clause-divide
returns-clause-divide c = λ stretches columns row furthest. furthest_divide stretches columns 0 row furthest

pub returns-clause-fewest : goal.returns-clause-fewest
returns-clause-fewest c = λ stretches columns ends furthest orderly row divides fit.
    let all = ahead stretches columns 0 0 row ends orderly (omega arith) (inl refl) furthest divides fit in
    all.0

pub returns-clause-fit : goal.returns-clause-fit
returns-clause-fit c = λ stretches columns ends furthest orderly row divides fit.
    let all = ahead stretches columns 0 0 row ends orderly (omega arith) (inl refl) furthest divides fit in
    all.1
