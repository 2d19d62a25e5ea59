-- Numbers that the table of Uppercase leaves out, found in one pass over its ranges.
use Rattle.std.proofs.Common.{◌≡◌, ℕ, ◌<◌, ◌≤◌, ◌&&◌, ◌||◌, nat_le, nat_lt, Bool, true, false, List, [], ◌∷◌, drop, refl, sym, ap, ◌∙◌, arith, inl, inr}
use Rattle.std.specs.Char.{is_ascii_uppercase}
use Rattle.std.specs.List.{list_all}
use Rattle.std.proofs.lemmas.Bool.{and_parts, or_cases, lt-leb, ltb-true}
use Rattle.std.proofs.Math.Bool.{and-false, or-false}
use Rattle.ucd_table.specs.Rows.{Range, in_ranges}
use Rattle.ucd_derived.specs.UppercaseRanges.{uppercase_ranges}
use Rattle.unicode.specs.Binary.{is_uppercase}

-- Each range ends before low or begins after high.
abbrev pub is_apart : ℕ → ℕ → Range → Bool
is_apart low high r = nat_lt r.1 low || nat_lt high r.0

apart_here : (low high c : ℕ) (r : Range) → is_apart low high r ≡ true → low ≤ c → c ≤ high → (nat_le r.0 c && nat_le c r.1) ≡ false
apart_here low high c r h l k = elim (or_cases (nat_lt r.1 low) (nat_lt high r.0) h) [
  | inl before ↦ let lt = ltb-true r.1 low before in rw (lt-leb c r.1 (omega arith)) (and-false (nat_le r.0 c))
  | inr after ↦ let lt = ltb-true high r.0 after in rw (lt-leb r.0 c (omega arith)) refl
]

in_none : (low high c : ℕ) (rs : List Range) → list_all (is_apart low high) rs ≡ true → low ≤ c → c ≤ high → in_ranges rs c ≡ false
unfolding in_ranges
in_none low high c [] h l k = refl
in_none low high c (r ∷ rs) h l k =
    let parts = and_parts (is_apart low high r) (list_all (is_apart low high) rs) h in
    ap (λ b. b || in_ranges rs c) (apart_here low high c r parts.0 l k) ∙ in_none low high c rs parts.1 l k

pub none_upper_between : (low high c : ℕ) → list_all (is_apart low high) uppercase_ranges ≡ true → low ≤ c → c ≤ high → is_uppercase c ≡ false
unfolding is_uppercase
none_upper_between low high c h l k = in_none low high c uppercase_ranges h l k

-- Only the first range holds ASCII characters.
pub is_uppercase_ascii : (c : ℕ) → c < 128 → is_ascii_uppercase c ≡ is_uppercase c
unfolding is_uppercase uppercase_ranges in_ranges
is_uppercase_ascii c below =
    let rest : in_ranges (drop 1 uppercase_ranges) c ≡ false = in_none 0 127 c (drop 1 uppercase_ranges) refl (omega arith) (omega arith) in
    sym (ap (λ b. is_ascii_uppercase c || b) rest ∙ or-false (is_ascii_uppercase c))
