-- Costs, and which one is less.
use Rattle.std.specs.Prelude.{◌≡◌, ◌+◌, ◌<◌, ◌≤◌, ◌⊎◌}
use Rattle.line_division.specs.declared.cost.Cost.{Cost}

-- The cost of no lines.
abbrev pub nothing : Cost
nothing = record { excess = 0; over = 0; spent = 0 }

-- The cost of both together.
abbrev pub together : Cost → Cost → Cost
together one other =
    record { excess = one.excess + other.excess; over = one.over + other.over; spent = one.spent + other.spent }

-- Fewer lines are over a ladder than for another cost, or as many are and no more is spent.
abbrev pub SpendsNoMore : Cost → Cost → Type 0
SpendsNoMore one other = (one.over < other.over) ⊎ ((one.over ≡ other.over) × (one.spent ≤ other.spent))

-- One costs no more than another: its excess is less, or it is the same, and the rest is no more.
abbrev pub CostsNoMore : Cost → Cost → Type 0
CostsNoMore one other = (one.excess < other.excess) ⊎ ((one.excess ≡ other.excess) × SpendsNoMore one other)
