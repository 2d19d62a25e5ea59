-- Numbers of no character are as good as one of them, also where a digit comes after.
use Rattle.std.proofs.Common.{◌≡◌, ℕ, ◌+◌, ◌*◌, ◌≤◌, Bool, true, false, List, [], ◌∷◌, min, ap, sym, ◌∙◌, arith, inl, inr}
use Rattle.std.proofs.Math.Nat.{min-eq_left, min-eq_right, min-le_right}
use Rattle.std.proofs.lemmas.Bool.{cases_lt}
use Rattle.std.proofs.lemmas.Bool.Decides.{nat_tests}
use Rattle.std.specs.Int.Digits.{number_from_digits_after}
use Rattle.html_pieces.specs.References.{base_of, character_of}

-- the first number past those of characters
abbrev pub no_character : ℕ
no_character = 0x11_0000

abbrev pub capped : ℕ → ℕ
capped n = min n no_character

pub capped_within : (n : ℕ) → capped n ≤ no_character
capped_within n = min-le_right n no_character

pub capped_below : (n : ℕ) → n ≤ no_character → capped n ≡ n
capped_below n h = min-eq_left h

pub capped_above : (n : ℕ) → no_character ≤ n → capped n ≡ no_character
capped_above n h = min-eq_right h

above_on : (hexadecimal : Bool) (n d : ℕ) → no_character ≤ n → no_character ≤ n * base_of hexadecimal + d
above_on true n d h = omega (arith, h)
above_on false n d h = omega (arith, h)

-- a digit after a number, or after the one that it is capped to
pub capped_on : (hexadecimal : Bool) (n d : ℕ) → capped (capped n * base_of hexadecimal + d) ≡ capped (n * base_of hexadecimal + d)
capped_on hexadecimal n d =
    elim (cases_lt n no_character) [
      | inl below ↦ ap (λ m. capped (m * base_of hexadecimal + d)) (capped_below n (omega (arith, below)))
      | inr above ↦
          ap (λ m. capped (m * base_of hexadecimal + d)) (capped_above n above)
          ∙ capped_above (no_character * base_of hexadecimal + d) (above_on hexadecimal no_character d (omega arith))
          ∙ sym (capped_above (n * base_of hexadecimal + d) (above_on hexadecimal n d above))
    ]

-- digits after a number, or after the one that it is capped to
pub capped_after : (hexadecimal : Bool) (n : ℕ) (ds : List ℕ) → capped (number_from_digits_after (base_of hexadecimal) (capped n) ds) ≡ capped (number_from_digits_after (base_of hexadecimal) n ds)
capped_after hexadecimal n [] =
    elim (cases_lt n no_character) [
      | inl below ↦ ap capped (capped_below n (omega (arith, below)))
      | inr above ↦ ap capped (capped_above n above) ∙ capped_below no_character (omega arith) ∙ sym (capped_above n above)
    ]
capped_after hexadecimal n (d ∷ ds) =
    let base = base_of hexadecimal in
    sym (capped_after hexadecimal (capped n * base + d) ds)
    ∙ ap (λ m. capped (number_from_digits_after base m ds)) (capped_on hexadecimal n d)
    ∙ capped_after hexadecimal (n * base + d) ds

above_stands_for_none : (n : ℕ) → no_character ≤ n → character_of n ≡ 0xFFFD
above_stands_for_none n h = grind (arith, nat_tests, h)

pub character_of_capped : (n : ℕ) → character_of (capped n) ≡ character_of n
character_of_capped n =
    elim (cases_lt n no_character) [
      | inl below ↦ ap character_of (capped_below n (omega (arith, below)))
      | inr above ↦ ap character_of (capped_above n above) ∙ sym (above_stands_for_none n above)
    ]
