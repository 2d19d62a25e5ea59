-- A change can be written in a dictionary text.
use Rattle.std.proofs.Common.{◌≡◌, ℕ, ◌<◌, ◌^◌, Bool, true, ◌&&◌, arith, List, refl}
use Rattle.std.specs.Prelude.{IsUtf8}
use Rattle.std.specs.Str.{is_utf8}
use Rattle.std.proofs.lemmas.Str.{is_utf8-from_IsUtf8}
use Rattle.std.proofs.lemmas.Bool.Decides.{nat_tests}
use Rattle.hyphenation_breaks.specs.Invariant.{fits_usize, can_be_written}

-- what numbers below 2^64 and a text make
pub said_by : (left right breakpoint : ℕ) (s : List ℕ) → left < 2 ^ 64 → right < 2 ^ 64 → breakpoint < 2 ^ 64 → IsUtf8 s → can_be_written (record { left = left; right = right; substitution = s; breakpoint = breakpoint }) ≡ true
said_by left right breakpoint s a b c u = four (fits_usize left) (fits_usize right) (fits_usize breakpoint) (is_utf8 s) (short left a) (short right b) (short breakpoint c) (is_utf8-from_IsUtf8 s u)
  where
    short : (n : ℕ) → n < 2 ^ 64 → fits_usize n ≡ true
    short n h = grind (arith, nat_tests)

    four : (a b c d : Bool) → a ≡ true → b ≡ true → c ≡ true → d ≡ true → (a && b && c && d) ≡ true
    four a b c d x y z w = rw (x, y, z, w) refl
