-- The test of a break that lies in a text.
use Rattle.std.proofs.Common.{◌≡◌, ℕ, ◌+◌, ◌-◌, ◌<◌, ◌≤◌, ◌^◌, Bool, true, false, ◌&&◌, nat_le, List, Option, None, Some, arith}
use Rattle.std.specs.Prelude.{IsTrue, ◌↔◌}
use Rattle.std.proofs.lemmas.Bool.Decides.{nat_tests}
use Rattle.hyphenation_breaks.specs.Break.{Break, Change, left_of, right_of, begin_of, end_of, is_boundary, has_boundary}
use Rattle.hyphenation_breaks.specs.Invariant.{fits_usize, can_be_written, can_be_written_if_any, lists_within}

short : (n : ℕ) → n < 2 ^ 64 → fits_usize n ≡ true
short n h = grind (arith, nat_tests)

no_less : (a b : ℕ) → a ≤ b → nat_le a b ≡ true
no_less a b h = grind (arith, nat_tests)

-- of a change, where all else holds, both ends of its range are left to be judged
ends : (b from to : Bool) → IsTrue (b && from && to) ↔ IsTrue (b && (true && (true && true && (true && from && to && true))))
ends true true true = (λ h. h, λ h. h)
ends true true false = (λ h. h, λ h. h)
ends true false to = (λ h. h, λ h. h)
ends false from to = (λ h. h, λ h. h)

told : (b from to f s l k : Bool) → f ≡ true → s ≡ true → l ≡ true → k ≡ true → IsTrue (b && from && to) ↔ IsTrue (b && (f && (f && s && (l && from && to && k))))
told b from to f s l k ef es el ek = rw (ef, es, el, ek) (ends b from to)

-- without one both ends are the place
plain : (b f : Bool) → f ≡ true → IsTrue (b && b && b) ↔ IsTrue (b && (f && true))
plain true f e = rw e (λ h. h, λ h. h)
plain false f e = (λ h. h, λ h. h)

unchanged : (text : List ℕ) (place from to : ℕ) → from ≡ place → to ≡ place → place < 2 ^ 64 → IsTrue (is_boundary text place && is_boundary text from && is_boundary text to) ↔ IsTrue (is_boundary text place && (fits_usize place && true))
unchanged text place from to begins ends below = rw (begins, ends) (plain (is_boundary text place) (fits_usize place) (short place below))

within_text : (text : List ℕ) (place : ℕ) (change : Option Change) → IsTrue (has_boundary change) → IsTrue (can_be_written_if_any change) → left_of change ≤ place → place + right_of change < 2 ^ 64
    → IsTrue (is_boundary text place && is_boundary text (place - left_of change) && is_boundary text (place + right_of change)) ↔ IsTrue (is_boundary text place && lists_within text place change)
within_text text place None bound said before below = unchanged text place (place - 0) (place + 0) (omega arith) (omega arith) (omega arith)
within_text text place (Some change) bound said before below =
    told (is_boundary text place) (is_boundary text (place - change.left)) (is_boundary text (place + change.right)) (fits_usize place) (can_be_written change) (nat_le change.left place) (is_boundary change.substitution change.breakpoint)
    (short place (omega arith)) said (no_less change.left place before) bound

pub within : (text : List ℕ) (b : Break) (place : ℕ) (range : ℕ × ℕ) (result : Bool) → IsTrue (has_boundary b.change) → IsTrue (can_be_written_if_any b.change) → (left_of b.change ≤ b.place) × (end_of b < 2 ^ 64)
    → place ≡ b.place → range ≡ (begin_of b, end_of b) → result ≡ (is_boundary text place && is_boundary text range.0 && is_boundary text range.1)
    → IsTrue result ↔ IsTrue (is_boundary text b.place && lists_within text b.place b.change)
within text b place range result bound said inside at is told_by =
    rw (told_by, is, at) (within_text text b.place b.change bound said inside.0 inside.1)
