-- Plain breaks that fit, and places that ascend.
use Rattle.std.proofs.Common.{◌≡◌, ℕ, ◌+◌, ◌≤◌, ◌<◌, get_or, List, [], ◌∷◌, map, refl, subst, sym, arith, add-zero, IsCharBoundary, true, inl, inr, length, nat_le, nat_lt, slice_index, ◌&&◌, ◌||◌}
use Rattle.std.proofs.lemmas.Bool.{and_from, and_parts, or_cases, le-leb, leb-true, ltb-true}
use Rattle.std.proofs.Math.Nat.{sub-zero}
use Rattle.hyphenation_breaks.specs.Break.{plain_break, ascend_on, is_boundary}
use Rattle.std.proofs.lemmas.Bool.Decides.{nat_tests}
use Rattle.std.proofs.lemmas.List.{get_or_past}
use Rattle.hyphenation_segments.specs.Fits.{FitsFrom}

boundary_test : (text : List ℕ) (at : ℕ) → IsCharBoundary text at → is_boundary text at ≡ true
boundary_test text at h = by (h.1) (get_or_past text at 0)
  where
    by : (at < length text → 128 ≤ get_or text at 0 → 192 ≤ get_or text at 0) → (length text ≤ at → get_or text at 0 ≡ 0) → is_boundary text at ≡ true
    by lead past = let in_text : at ≤ length text = h.0 in grind (arith, nat_tests)

-- Places that ascend from a least place on, by std's definition of a character boundary.
abbrev pub Ascend : List ℕ → ℕ → List ℕ → Type 0
Ascend text least [] = Unit {0}
Ascend text least (p ∷ ps) = (least ≤ p) × IsCharBoundary text p × Ascend text (p + 1) ps

pub ascend_fits : (text : List ℕ) (last_end least : ℕ) (places : List ℕ) → last_end ≤ least → Ascend text least places → FitsFrom text last_end least (map plain_break places)
ascend_fits text last_end least [] h a = tt
ascend_fits text last_end least (p ∷ ps) h a = (
  record {
    ascends = a.0;
    within = omega arith;
    apart = omega (arith, h, a.0);
    place = a.1;
    begin = subst (IsCharBoundary text) (sym (sub-zero p)) a.1;
    end = subst (IsCharBoundary text) (sym (add-zero p)) a.1;
  },
  ascend_fits text (p + 0) (p + 1) ps (omega arith) a.2,
)

pub fits_ascend : (text : List ℕ) (last_end least : ℕ) (places : List ℕ) → FitsFrom text last_end least (map plain_break places) → Ascend text least places
fits_ascend text last_end least [] f = tt
fits_ascend text last_end least (p ∷ ps) f = (f.0.ascends, f.0.place, fits_ascend text (p + 0) (p + 1) ps f.1)

-- The tests of a boundary and of places, and the facts that they test.
pub boundary_from_test : (text : List ℕ) (at : ℕ) → is_boundary text at ≡ true → IsCharBoundary text at
boundary_from_test text at passes =
    let both = and_parts (nat_le at (length text)) (nat_lt (slice_index text at) 128 || nat_le 192 (slice_index text at)) passes in (
      leb-true at (length text) both.0,
      λ below high. elim (or_cases (nat_lt (slice_index text at) 128) (nat_le 192 (slice_index text at)) both.1) [
        | inl low ↦ absurd (omega (arith, ltb-true (slice_index text at) 128 low, high))
        | inr lead ↦ leb-true 192 (slice_index text at) lead
      ],
    )

pub ascend_from_test : (text : List ℕ) (least : ℕ) (places : List ℕ) → ascend_on text least places ≡ true → Ascend text least places
ascend_from_test text least [] h = tt
ascend_from_test text least (p ∷ ps) h =
    let all = and_parts (nat_le least p && is_boundary text p) (ascend_on text (p + 1) ps) h in
    let here = and_parts (nat_le least p) (is_boundary text p) all.0 in
    (leb-true least p here.0, boundary_from_test text p here.1, ascend_from_test text (p + 1) ps all.1)

pub test_from_ascend : (text : List ℕ) (least : ℕ) (places : List ℕ) → Ascend text least places → ascend_on text least places ≡ true
test_from_ascend text least [] a = refl
test_from_ascend text least (p ∷ ps) a =
    and_from (nat_le least p && is_boundary text p) (ascend_on text (p + 1) ps)
    (and_from (nat_le least p) (is_boundary text p) (le-leb least p a.0) (boundary_test text p a.1)) (test_from_ascend text (p + 1) ps a.2)
