-- Each of the breaks that fit a text is in it.
use Rattle.std.proofs.Common.{ℕ, ◌≡◌, ◌+◌, ◌<◌, List, [], ◌∷◌, map, length, sym, subst, arith, get_or, zero, suc}
use Rattle.hyphenation_breaks.specs.Break.{Break, end_of}
use Rattle.hyphenation_segments.specs.Fits.{FitsFrom, BreakFitsAfter}

pub each_stands : {X : Type 0} (meaning : X → Break) (text : List ℕ) (xs : List X) (last_end least : ℕ) → FitsFrom text last_end least (map meaning xs)
    → (i : ℕ) (x : X) → i < length xs → x ≡ get_or xs i x → BreakFitsAfter text 0 0 (meaning x)
each_stands meaning text [] last_end least fit i x lt is = absurd (omega (arith, lt))
each_stands meaning text (y ∷ ys) last_end least fit zero x lt is =
    subst (λ z. BreakFitsAfter text 0 0 (meaning z)) (sym is)
    record { ascends = omega arith; within = fit.0.within; apart = omega arith; place = fit.0.place; begin = fit.0.begin; end = fit.0.end }
each_stands meaning text (y ∷ ys) last_end least fit (suc i) x lt is =
    each_stands meaning text ys (end_of (meaning y)) ((meaning y).place + 1) fit.1 i x (omega (arith, lt)) is
