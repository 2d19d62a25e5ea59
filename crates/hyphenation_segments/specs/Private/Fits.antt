-- Any two proofs that breaks fit a text are equal, so a `Word` can carry one.
use Rattle.std.specs.Prelude.{ℕ, ◌+◌, List, [], ◌∷◌}
use Rattle.std.specs.Coded.{×_prop, Unit-prop}
use Rattle.std.proofs.Props.{props}
use Rattle.hyphenation_breaks.specs.Break.{Break, end_of}
use Rattle.hyphenation_segments.specs.Fits.{BreakFitsAfter, FitsFrom}

pub BreakFitsAfter-prop : (text : List ℕ) (last_end least : ℕ) (b : Break) → IsProp (BreakFitsAfter text last_end least b)
BreakFitsAfter-prop text last_end least b = hlevel props

pub FitsFrom-prop : (text : List ℕ) (last_end least : ℕ) (breaks : List Break)
    → IsProp (FitsFrom text last_end least breaks)
FitsFrom-prop text last_end least [] = Unit-prop
FitsFrom-prop text last_end least (b ∷ bs) =
    ×_prop (BreakFitsAfter-prop text last_end least b) (FitsFrom-prop text (end_of b) (b.place + 1) bs)
