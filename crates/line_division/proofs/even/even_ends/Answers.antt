use Rattle.std.proofs.Common.{Some, subst, sym}
use Rattle.line_division.specs.Division.{KeepsLadder}
use Rattle.line_division.specs.Private.Ladder.{AreEnds}
use Rattle.line_division.proofs.Ladders.{divides_ends, free_least}
use Rattle.line_division.proofs.even.even_ends.Goals as goal

pub keeps_ladder-requires : goal.keeps_ladder-requires
keeps_ladder-requires c =
    subst (AreEnds c.args.stretches.now) (sym c.deref.ensures.value) (divides_ends c.args.stretches.now c.args.columns 0 c.in_ok-ends.ends.items c.in_ok-ends.ensures.divides)

pub returns-then-keeps_ladder-clause-least : goal.returns-then-keeps_ladder-clause-least
returns-then-keeps_ladder-clause-least c =
    let stretches = c.args.stretches.now in
    let ends = c.in_ok-ends.ends.items in
    free_least stretches c.args.columns c.args.last_columns c.args.ladder ends c.in_ok-ends.ensures.least
    (subst (λ l. KeepsLadder stretches l 0 ends) (sym c.in-Some.is)
    (subst (KeepsLadder stretches (Some c.in-Some.most) 0) c.deref.ensures.value (c.keeps_ladder.ensures c.if-keeps_ladder.true)))
