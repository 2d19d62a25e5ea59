-- Places of breaks that fit a text.
use Rattle.std.proofs.Common.{ℕ, ◌≡◌, ◌+◌, ◌<◌, List, [], ◌∷◌, map, length, refl, sym, ap, subst, arith, slice_index, get_or, IsCharBoundary, zero, suc}
use Rattle.hyphenation_breaks.specs.Break.{Break, plain_break, end_of}
use Rattle.hyphenation_segments.specs.Fits.{FitsFrom, BreakFitsAfter}
use Rattle.callers.specs.Room.{places_of}

pub on_boundaries : (text : List ℕ) (last_end least : ℕ) (places : List ℕ) → FitsFrom text last_end least (map plain_break places)
    → (i : ℕ) → i < length places → IsCharBoundary text (slice_index places i)
on_boundaries text last_end least [] fit i lt = absurd (omega (arith, lt))
on_boundaries text last_end least (p ∷ ps) fit zero lt = fit.0.place
on_boundaries text last_end least (p ∷ ps) fit (suc i) lt = on_boundaries text (p + 0) (p + 1) ps fit.1 i (omega (arith, lt))

pub places_back : (places : List ℕ) → places_of (map plain_break places) ≡ places
places_back [] = refl
places_back (p ∷ ps) = ap (λ l. p ∷ l) (places_back ps)

-- Each of the breaks that fit a text lies in it by itself.
pub each_stands : {X : Type 0} (meaning : X → Break) (text : List ℕ) (xs : List X) (last_end least : ℕ) → FitsFrom text last_end least (map meaning xs)
    → (i : ℕ) (x : X) → i < length xs → x ≡ get_or xs i x → BreakFitsAfter text 0 0 (meaning x)
each_stands meaning text [] last_end least fit i x lt is = absurd (omega (arith, lt))
each_stands meaning text (y ∷ ys) last_end least fit zero x lt is =
    subst (λ z. BreakFitsAfter text 0 0 (meaning z)) (sym is)
    record { ascends = omega arith; within = fit.0.within; apart = omega arith; place = fit.0.place; begin = fit.0.begin; end = fit.0.end }
each_stands meaning text (y ∷ ys) last_end least fit (suc i) x lt is =
    each_stands meaning text ys (end_of (meaning y)) ((meaning y).place + 1) fit.1 i x (omega (arith, lt)) is
