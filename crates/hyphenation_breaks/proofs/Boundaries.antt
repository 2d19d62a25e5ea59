-- Tests of a boundary: the one of the definitions and the one of the standard library.
use Rattle.std.proofs.Common.{◌≡◌, ℕ, ◌≤◌, ◌<◌, get_or, List, arith, IsCharBoundary, true, inl, inr, length, nat_le, nat_lt, slice_index, ◌||◌}
use Rattle.std.proofs.lemmas.Bool.{and_parts, or_cases, leb-true, ltb-true}
use Rattle.std.proofs.lemmas.Bool.Decides.{nat_tests}
use Rattle.std.proofs.lemmas.List.{get_or_past}
use Rattle.hyphenation_breaks.specs.Break.{is_boundary}

pub boundary_test : (text : List ℕ) (at : ℕ) → IsCharBoundary text at → is_boundary text at ≡ true
boundary_test text at h = by (h.1) (get_or_past text at 0)
  where
    by : (at < length text → 128 ≤ get_or text at 0 → 192 ≤ get_or text at 0) → (length text ≤ at → get_or text at 0 ≡ 0) → is_boundary text at ≡ true
    by lead past = let in_text : at ≤ length text = h.0 in grind (arith, nat_tests)

pub boundary_from_test : (text : List ℕ) (at : ℕ) → is_boundary text at ≡ true → IsCharBoundary text at
boundary_from_test text at passes =
    let both = and_parts (nat_le at (length text)) (nat_lt (slice_index text at) 128 || nat_le 192 (slice_index text at)) passes in (
      leb-true at (length text) both.0,
      λ below high. elim (or_cases (nat_lt (slice_index text at) 128) (nat_le 192 (slice_index text at)) both.1) [
        | inl low ↦ absurd (omega (arith, ltb-true (slice_index text at) 128 low, high))
        | inr lead ↦ leb-true 192 (slice_index text at) lead
      ],
    )
