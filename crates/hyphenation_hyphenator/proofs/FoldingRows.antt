-- Facts of the table of simple case foldings, found in one pass over its rows.
use Rattle.std.proofs.Common.{◌≡◌, ℕ, zero, suc, ◌+◌, ◌<◌, ◌≤◌, ◌==◌, ◌&&◌, ◌||◌, nat_le, leb-true, Bool, true, false, cond, List, [], ◌∷◌, refl, subst, arith, inl, inr, eqb-true}
use Rattle.std.specs.Char.{to_ascii_lowercase}
use Rattle.std.specs.List.{list_all, range_with_len}
use Rattle.std.specs.Str.{all_scalars}
use Rattle.std.proofs.lemmas.Bool.{and_parts, or_cases, cases_lt}
use Rattle.ucd_derived.specs.UppercaseRanges.{uppercase_ranges}
use Rattle.ucd_table.specs.Rows.{in_ranges}
use Rattle.unicode.specs.Binary.{is_uppercase}
use Rattle.hyphenation_hyphenator.specs.Folding.{fold_character}
use Rattle.hyphenation_hyphenator.specs.Private.InPlace.{is_common_capital}
use Rattle.ucd_table.specs.Rows.{Row, value_in}
use Rattle.ucd_case.specs.SimpleFoldingRows.{simple_folding_rows}
use Rattle.unicode.specs.CaseFolding.{simple_folding, simple_fold}

value_passes : {V : Type 0} (test : V → Bool) (default : V) (rows : List (Row V)) (c : ℕ) → test default ≡ true → list_all (λ r. test r.2) rows ≡ true → test (value_in default rows c) ≡ true
unfolding value_in
value_passes test default [] c d h = d
value_passes test default (r ∷ rs) c d h =
    let parts = and_parts (test r.2) (list_all (λ r. test r.2) rs) h in
    elim (nat_le r.0 c && nat_le c r.1) as (λ b. test (cond b r.2 (value_in default rs c)) ≡ true) [ true ↦ parts.0 | false ↦ value_passes test default rs c d parts.1 ]

-- The table folds characters to characters.
pub foldings_are_scalars : (c : ℕ) → all_scalars (simple_folding c) ≡ true
unfolding simple_folding simple_folding_rows
foldings_are_scalars c = value_passes all_scalars [] simple_folding_rows c refl refl

each_passes : (test : ℕ → Bool) (a n c : ℕ) → list_all test (range_with_len a n) ≡ true → a ≤ c → c < a + n → test c ≡ true
each_passes test a zero c h l k = absurd (omega arith)
each_passes test a (suc n) c h l k =
    let parts = and_parts (test a) (list_all test (range_with_len (a + 1) n)) h in
    elim (cases_lt a c) [
      | inl later ↦ each_passes test (a + 1) n c parts.1 (omega arith) (omega arith)
      | inr here ↦ let same : a ≡ c = omega arith in subst (λ x. test x ≡ true) same parts.0
    ]

-- The capitals of ASCII fold to its lowercase letters.
pub capitals_fold : (c : ℕ) → 65 ≤ c → c < 91 → simple_fold c ≡ to_ascii_lowercase c
unfolding simple_folding simple_folding_rows value_in
capitals_fold c l k = eqb-true _ _ (each_passes (λ x. simple_fold x == to_ascii_lowercase x) 65 26 c refl l k)

-- The capitals of Latin-1 and of Russian fold to the letters whose numbers are 32 greater.
latin_capitals_fold : (c : ℕ) → 0xC0 ≤ c → c ≤ 0xD6 → fold_character c ≡ c + 32
unfolding is_uppercase uppercase_ranges in_ranges simple_folding simple_folding_rows value_in
latin_capitals_fold c l k = eqb-true _ _ (each_passes (λ x. fold_character x == x + 32) 0xC0 23 c refl l (omega arith))

more_latin_capitals_fold : (c : ℕ) → 0xD8 ≤ c → c ≤ 0xDE → fold_character c ≡ c + 32
unfolding is_uppercase uppercase_ranges in_ranges simple_folding simple_folding_rows value_in
more_latin_capitals_fold c l k = eqb-true _ _ (each_passes (λ x. fold_character x == x + 32) 0xD8 7 c refl l (omega arith))

russian_capitals_fold : (c : ℕ) → 0x410 ≤ c → c ≤ 0x42F → fold_character c ≡ c + 32
unfolding is_uppercase uppercase_ranges in_ranges simple_folding simple_folding_rows value_in
russian_capitals_fold c l k = eqb-true _ _ (each_passes (λ x. fold_character x == x + 32) 0x410 32 c refl l (omega arith))

pub common_capital_folds : (c : ℕ) → is_common_capital c ≡ true → fold_character c ≡ c + 32
common_capital_folds c e =
    elim (or_cases ((nat_le 0xC0 c && nat_le c 0xD6) || (nat_le 0xD8 c && nat_le c 0xDE)) (nat_le 0x410 c && nat_le c 0x42F) e) [
      | inl latin ↦ elim (or_cases (nat_le 0xC0 c && nat_le c 0xD6) (nat_le 0xD8 c && nat_le c 0xDE) latin) [
        | inl before ↦ let ends = and_parts (nat_le 0xC0 c) (nat_le c 0xD6) before in latin_capitals_fold c (leb-true 0xC0 c ends.0) (leb-true c 0xD6 ends.1)
        | inr after ↦ let ends = and_parts (nat_le 0xD8 c) (nat_le c 0xDE) after in more_latin_capitals_fold c (leb-true 0xD8 c ends.0) (leb-true c 0xDE ends.1)
      ]
      | inr russian ↦ let ends = and_parts (nat_le 0x410 c) (nat_le c 0x42F) russian in russian_capitals_fold c (leb-true 0x410 c ends.0) (leb-true c 0x42F ends.1)
    ]
