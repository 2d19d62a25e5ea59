-- Numbers as they are written.
use Rattle.std.proofs.Common.{◌≡◌, ℕ, suc, ◌+◌, ◌-◌, ◌*◌, ◌/◌, ◌%◌, ◌^◌, ◌<◌, ◌≤◌, Bool, true, false, cond, not, ◌&&◌, ◌||◌, eqb, nat_le, nat_lt, List, [], ◌∷◌, ◌++◌, length, Option, Some, None, refl, ap, ◌∙◌, arith}
use Rattle.std.specs.Prelude.{decimal, IsUtf8}
use Rattle.std.specs.List.{fold, list_all, AllByRecursion}
use Rattle.std.proofs.lemmas.Fmt.{decimal_by_steps, IsAscii-decimal}
use Rattle.std.proofs.lemmas.Bool.{and_from, le-leb}
use Rattle.std.proofs.lemmas.Bool.Decides.{nat_tests}
use Rattle.std.proofs.lemmas.Str.{IsUtf8-from_ascii}
use Rattle.hyphenation_grammar.specs.Lines.{is_digit, with_digit, number, has_no_leading_zero, is_number, number_to_255}
use Rattle.hyphenation_grammar.specs.Tokens.{braced_value}
use Rattle.std.specs.Cmp.{first_so, second_so}

digit_is : (n : ℕ) → n < 10 → is_digit (48 + n) ≡ true
digit_is n h = grind (arith, nat_tests)

all_more : (ds : List ℕ) (d : ℕ) → list_all is_digit ds ≡ true → is_digit d ≡ true → list_all is_digit (ds ++ d ∷ []) ≡ true
all_more [] d e h = and_from (is_digit d) true h refl
all_more (b ∷ ds) d e h = and_from (is_digit b) (list_all is_digit (ds ++ d ∷ [])) (first_so (is_digit b) (list_all is_digit ds) e) (all_more ds d (second_so (is_digit b) (list_all is_digit ds) e) h)

fold_more : (ds : List ℕ) (at d : ℕ) → fold with_digit at (ds ++ d ∷ []) ≡ with_digit (fold with_digit at ds) d
fold_more [] at d = refl
fold_more (b ∷ ds) at d = fold_more ds (with_digit at b) d

-- the digits of a number
pub record IsWritten (n : ℕ) (ds : List ℕ) : Type 0 where
  pub digits : list_all is_digit ds ≡ true
  pub value : number ds ≡ n
  pub first : has_no_leading_zero ds ≡ true

one : (n : ℕ) → n < 10 → IsWritten n ((48 + n) ∷ [])
one n h = record { digits = and_from (is_digit (48 + n)) true (digit_is n h) refl; value = sums n; first = either (48 + n) }
  where
    sums : (n : ℕ) → 0 * 10 + ((48 + n) - 48) ≡ n
    sums n = omega arith

    either : (b : ℕ) → (not (eqb b 48) || true) ≡ true
    either b = elim (eqb b 48) as (λ t. (not t || true) ≡ true) [ true ↦ refl | false ↦ refl ]

clash : (k : ℕ) → eqb (suc k) 0 ≡ true → ⊥
clash k e = grind (arith, nat_tests)

no_zero : (n : ℕ) (ds : List ℕ) (d : ℕ) → 10 ≤ n → IsWritten (n / 10) ds → has_no_leading_zero (ds ++ d ∷ []) ≡ true
no_zero n [] d h w = let v : 0 ≡ n / 10 = w.value in absurd (omega arith)
no_zero n (b ∷ []) d h w = rw (apart) refl
  where
    apart : eqb b 48 ≡ false
    apart = let v : 0 * 10 + (b - 48) ≡ n / 10 = w.value in let p : 1 ≤ n / 10 = omega arith in grind (arith, nat_tests)
no_zero n (b ∷ c ∷ ds) d h w = by (eqb b 48) w.first
  where
    by : (t : Bool) → (not t || eqb (suc (length ds)) 0) ≡ true → (not t || eqb (suc (length (ds ++ d ∷ []))) 0) ≡ true
    by true e = absurd (clash (length ds) e)
    by false e = refl

more : (n : ℕ) (ds : List ℕ) → 10 ≤ n → IsWritten (n / 10) ds → IsWritten n (ds ++ (48 + n % 10) ∷ [])
more n ds h w = record {
  digits = all_more ds (48 + n % 10) w.digits (digit_is (n % 10) (omega arith));
  value = fold_more ds 0 (48 + n % 10) ∙ ap (λ (k : ℕ). k * 10 + ((48 + n % 10) - 48)) w.value ∙ sums n;
  first = no_zero n ds (48 + n % 10) h w;
}
  where
    sums : (n : ℕ) → n / 10 * 10 + ((48 + n % 10) - 48) ≡ n
    sums n = omega arith

pub decimal-written : (n : ℕ) → n < 2 ^ 64 → IsWritten n (decimal n)
decimal-written n h = decimal_by_steps IsWritten one more n h

pub decimal-number : (n : ℕ) → n < 2 ^ 64 → (is_number (decimal n) ≡ true) × (number (decimal n) ≡ n)
decimal-number n h =
    let w = decimal-written n h in
    (and_from (list_all is_digit (decimal n) && has_no_leading_zero (decimal n)) (nat_lt (number (decimal n)) (2 ^ 64)) (and_from (list_all is_digit (decimal n)) (has_no_leading_zero (decimal n)) w.digits w.first) (rw w.value (below n h)), w.value)
  where
    below : (n : ℕ) → n < 2 ^ 64 → nat_lt n (2 ^ 64) ≡ true
    below n h = grind (arith, nat_tests)

pub decimal-utf8 : (n : ℕ) → n < 2 ^ 64 → IsUtf8 (decimal n)
decimal-utf8 n h = IsUtf8-from_ascii (decimal n) (IsAscii-decimal n h)

-- what holds of each digit holds of each byte of digits
pub all-digits : (P : ℕ → Type 0) → ((b : ℕ) → is_digit b ≡ true → P b) → (ds : List ℕ) → list_all is_digit ds ≡ true → AllByRecursion P ds
all-digits P each [] e = tt
all-digits P each (b ∷ ds) e = (each b (first_so (is_digit b) (list_all is_digit ds) e), all-digits P each ds (second_so (is_digit b) (list_all is_digit ds) e))

-- a number up to 255 is one of a head line; from 10 on braces write it too
pub wide : (n : ℕ) → n ≤ 255 → n < 2 ^ 64
wide n h = omega arith

pub small-again : (n : ℕ) → n ≤ 255 → number_to_255 (decimal n) ≡ Some n
small-again n h =
    let d = decimal-number n (wide n h) in
    ap (λ (t : Bool). cond {A = Option ℕ} t (Some (number (decimal n))) None) (and_from (is_number (decimal n)) (nat_le (number (decimal n)) 255) d.0 (ap (λ (k : ℕ). nat_le k 255) d.1 ∙ le-leb n 255 h)) ∙ ap (λ (k : ℕ). Some k) d.1

pub braced-again : (n : ℕ) → nat_le n 9 ≡ false → n ≤ 255 → braced_value (decimal n) ≡ Some n
braced-again n big h = rw (small-again n h, from_ten n big) refl
  where
    from_ten : (n : ℕ) → nat_le n 9 ≡ false → nat_le 10 n ≡ true
    from_ten n e = grind (arith, nat_tests)
