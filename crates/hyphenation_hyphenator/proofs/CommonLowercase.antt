-- Common lowercase letters are no capitals and no soft hyphens, and a word of them folds to itself.
use Rattle.std.proofs.Common.{◌≡◌, ℕ, zero, suc, ◌+◌, ◌-◌, ◌*◌, ◌<◌, ◌≤◌, ◌==◌, ◌&&◌, ◌||◌, ◌⊎◌, true, false, cond, nat_le, leb-true, eqb-true, List, [], ◌∷◌, length, take, drop, slice_index, refl, sym, ap, subst, ◌∙◌, arith, inl, inr}
use Rattle.std.specs.Char.{is_ascii_lowercase}
use Rattle.std.specs.List.{list_all, list_any}
use Rattle.std.specs.Str.{IsUtf8, IsCharBoundary, chars, chars_after}
use Rattle.std.proofs.Math.Seq.{drop-cons}
use Rattle.std.proofs.lemmas.Bool.{and_parts, or_cases, cases_lt, lt-ltb, le-ltb, or_left, or_right}
use Rattle.std.proofs.lemmas.List.{drop_all}
use Rattle.std.proofs.lemmas.Str.{chars-nil}
use Rattle.hyphenation_hyphenator.proofs.OddPlaces.{is_within}
use Rattle.ucd_derived.specs.UppercaseRanges.{uppercase_ranges}
use Rattle.unicode.specs.Binary.{is_uppercase}
use Rattle.hyphenation_breaks.specs.Break.{Break}
use Rattle.hyphenation_hyphenator.specs.Fitting.{kept_breaks, fitted_breaks_of}
use Rattle.hyphenation_hyphenator.specs.Private.Fitting.{range_holds_no_shift}
use Rattle.hyphenation_hyphenator.specs.Folding.{fold_case, carried_back}
use Rattle.hyphenation_hyphenator.specs.Opportunities.{Rules, opportunities, Ascending}
use Rattle.hyphenation_hyphenator.specs.Places.{place_of_character}
use Rattle.hyphenation_hyphenator.specs.Private.CommonLowercase.{is_common_lowercase, is_common_pair, are_common_lowercase}
use Rattle.hyphenation_hyphenator.proofs.CapitalRanges.{none_upper_between}
use Rattle.hyphenation_hyphenator.proofs.Folds.{fold_stays}
use Rattle.hyphenation_hyphenator.proofs.Places.{place_of_boundary}
use Rattle.hyphenation_hyphenator.proofs.Refolding.{stays_without_shifts}
use Rattle.hyphenation_hyphenator.proofs.SoftHyphens.{none_at_all}
use Rattle.hyphenation_hyphenator.proofs.UnmovedPlaces.{breaks_where_unmoved}

-- ---- by their bytes

lower_first : (b c : ℕ) (bs : List ℕ) → b < 0x80 → are_common_lowercase (b ∷ c ∷ bs) ≡ (is_ascii_lowercase b && are_common_lowercase (c ∷ bs))
lower_first b c bs below = ap (λ t. cond t (is_ascii_lowercase b && are_common_lowercase (c ∷ bs)) (is_common_pair b c && are_common_lowercase bs)) (lt-ltb b 0x80 below)

pub pair_first : (b c : ℕ) (bs : List ℕ) → 0x80 ≤ b → are_common_lowercase (b ∷ c ∷ bs) ≡ (is_common_pair b c && are_common_lowercase bs)
pair_first b c bs above = ap (λ t. cond t (is_ascii_lowercase b && are_common_lowercase (c ∷ bs)) (is_common_pair b c && are_common_lowercase bs)) (le-ltb b 0x80 above)

-- The first two bytes of the rest.
two_left : (word : List ℕ) (at : ℕ) → at + 1 < length word → drop at word ≡ slice_index word at ∷ slice_index word (at + 1) ∷ drop (at + 2) word
two_left word at lt =
    let next : suc at ≡ at + 1 = omega arith in
    let after : suc (at + 1) ≡ at + 2 = omega arith in
    drop-cons word at 0 (omega arith) ∙ ap (λ (bs : List ℕ). slice_index word at ∷ bs)
    (ap (λ (k : ℕ). drop k word) next ∙ drop-cons word (at + 1) 0 lt ∙ ap (λ (k : ℕ). slice_index word (at + 1) ∷ drop k word) after)

next_left : (word : List ℕ) (at : ℕ) → at + 1 < length word → slice_index word (at + 1) ∷ drop (at + 2) word ≡ drop (at + 1) word
next_left word at lt =
    let after : suc (at + 1) ≡ at + 2 = omega arith in
    sym (drop-cons word (at + 1) 0 lt ∙ ap (λ (k : ℕ). slice_index word (at + 1) ∷ drop k word) after)

-- A word that begins with a byte of ASCII that is no letter.
pub begins_otherwise : (word : List ℕ) → 0 < length word → slice_index word 0 < 0x80 → is_ascii_lowercase (slice_index word 0) ≡ false → are_common_lowercase word ≡ false
begins_otherwise [] some below other = absurd (omega arith)
begins_otherwise (b ∷ []) some below other = other
begins_otherwise (b ∷ c ∷ bs) some below other = lower_first b c bs below ∙ ap (λ t. t && are_common_lowercase (c ∷ bs)) other

-- The rest after a step of the loop, and the end of the loop.
pub after_lower : (word : List ℕ) (at : ℕ) → at + 1 < length word → slice_index word at < 0x80 → is_ascii_lowercase (slice_index word at) ≡ true → are_common_lowercase (drop at word) ≡ are_common_lowercase (drop (at + 1) word)
after_lower word at lt below lower =
    ap are_common_lowercase (two_left word at lt) ∙ lower_first (slice_index word at) (slice_index word (at + 1)) (drop (at + 2) word) below
    ∙ ap (λ t. t && are_common_lowercase (slice_index word (at + 1) ∷ drop (at + 2) word)) lower ∙ ap are_common_lowercase (next_left word at lt)

pub no_lower : (word : List ℕ) (at : ℕ) → at + 1 < length word → slice_index word at < 0x80 → is_ascii_lowercase (slice_index word at) ≡ false → are_common_lowercase (drop at word) ≡ false
no_lower word at lt below other =
    ap are_common_lowercase (two_left word at lt) ∙ lower_first (slice_index word at) (slice_index word (at + 1)) (drop (at + 2) word) below
    ∙ ap (λ t. t && are_common_lowercase (slice_index word (at + 1) ∷ drop (at + 2) word)) other

pub after_pair : (word : List ℕ) (at : ℕ) → at + 1 < length word → 0x80 ≤ slice_index word at → is_common_pair (slice_index word at) (slice_index word (at + 1)) ≡ true → are_common_lowercase (drop at word) ≡ are_common_lowercase (drop (at + 2) word)
after_pair word at lt above pair =
    ap are_common_lowercase (two_left word at lt) ∙ pair_first (slice_index word at) (slice_index word (at + 1)) (drop (at + 2) word) above
    ∙ ap (λ t. t && are_common_lowercase (drop (at + 2) word)) pair

pub no_pair : (word : List ℕ) (at : ℕ) → at + 1 < length word → 0x80 ≤ slice_index word at → is_common_pair (slice_index word at) (slice_index word (at + 1)) ≡ false → are_common_lowercase (drop at word) ≡ false
no_pair word at lt above other =
    ap are_common_lowercase (two_left word at lt) ∙ pair_first (slice_index word at) (slice_index word (at + 1)) (drop (at + 2) word) above
    ∙ ap (λ t. t && are_common_lowercase (drop (at + 2) word)) other

pub none_left : (word : List ℕ) (at : ℕ) → length word ≤ at → are_common_lowercase (drop at word) ≡ true
none_left word at ge = ap are_common_lowercase (drop_all at word ge)

pub one_left : (word : List ℕ) (at : ℕ) → at < length word → length word ≤ at + 1 → are_common_lowercase (drop at word) ≡ is_ascii_lowercase (slice_index word at)
one_left word at lt ge =
    let next : suc at ≡ at + 1 = omega arith in
    ap are_common_lowercase (drop-cons word at 0 lt ∙ ap (λ (bs : List ℕ). slice_index word at ∷ bs) (ap (λ (k : ℕ). drop k word) next ∙ drop_all (at + 1) word ge))

-- ---- by their characters

lower_below : (c : ℕ) → is_ascii_lowercase c ≡ true → c < 0x80
lower_below c e = let last = leb-true c 0x7A (and_parts (nat_le 0x61 c) (nat_le c 0x7A) e).1 in omega arith

lower_small : (c : ℕ) → is_ascii_lowercase c ≡ true → is_common_lowercase c ≡ true
lower_small c e = or_left _ _ (or_left _ _ (or_left _ _ e))

cyrillic_small : (c : ℕ) → 0x430 ≤ c → c ≤ 0x45F → is_common_lowercase c ≡ true
cyrillic_small c low high = or_left _ _ (or_right ((nat_le 0x61 c && nat_le c 0x7A) || (nat_le 0xDF c && nat_le c 0xFF)) _ (is_within 0x430 0x45F c low high))

latin_small : (c : ℕ) → 0xDF ≤ c → c ≤ 0xFF → is_common_lowercase c ≡ true
latin_small c low high = or_left _ _ (or_left _ _ (or_right (nat_le 0x61 c && nat_le c 0x7A) _ (is_within 0xDF 0xFF c low high)))

long_small : (c : ℕ) → (c ≡ 0x151) ⊎ (c ≡ 0x171) → is_common_lowercase c ≡ true
long_small c (inl is) = ap is_common_lowercase is
long_small c (inr is) = ap is_common_lowercase is

chars_one : (c : ℕ) (bs : List ℕ) → chars_after 0 c bs ≡ c ∷ chars bs
unfolding chars
chars_one c [] = refl
chars_one c (b ∷ bs) = refl

pub chars_ascii : (b : ℕ) (bs : List ℕ) → b < 0x80 → chars (b ∷ bs) ≡ b ∷ chars bs
unfolding chars
chars_ascii b bs below = rw (lt-ltb b 0x80 below) (chars_one b bs)

pub chars_pair : (b c : ℕ) (bs : List ℕ) → 0xC0 ≤ b → b < 0xE0 → chars (b ∷ c ∷ bs) ≡ ((b - 192) * 64 + (c - 128)) ∷ chars bs
unfolding chars
chars_pair b c bs low high = rw (le-ltb b 0x80 (omega arith), lt-ltb b 0xE0 high) (chars_one ((b - 192) * 64 + (c - 128)) bs)

pub ends_of : (low high c : ℕ) → (nat_le low c && nat_le c high) ≡ true → (low ≤ c) × (c ≤ high)
ends_of low high c e = let parts = and_parts (nat_le low c) (nat_le c high) e in (leb-true low c parts.0, leb-true c high parts.1)

-- The bounds of the two bytes of a common lowercase letter, and its number.
pub pair_small : (b c : ℕ) → is_common_pair b c ≡ true → (0xC2 ≤ b) × (b < 0xE0) × (0x80 ≤ c) × (c < 0xC0) × (is_common_lowercase ((b - 0xC0) * 64 + (c - 0x80)) ≡ true)
pair_small b c e =
    let n = (b - 0xC0) * 64 + (c - 0x80) in
    let d0 = b == 0xD0 && (nat_le 0xB0 c && nat_le c 0xBF) in
    let d1 = b == 0xD1 && (nat_le 0x80 c && nat_le c 0x9F) in
    let c3 = b == 0xC3 && (nat_le 0x9F c && nat_le c 0xBF) in
    let c5 = b == 0xC5 && (c == 0x91 || c == 0xB1) in
    elim (or_cases ((d0 || d1) || c3) c5 e) [
      | inl more ↦ elim (or_cases (d0 || d1) c3 more) [
        | inl cyrillic ↦ elim (or_cases d0 d1 cyrillic) [
          | inl first ↦
              let parts = and_parts (b == 0xD0) (nat_le 0xB0 c && nat_le c 0xBF) first in
              let is = eqb-true b 0xD0 parts.0 in
              let ends = ends_of 0xB0 0xBF c parts.1 in
              (omega arith, omega arith, omega (arith, ends.0), omega (arith, ends.1), cyrillic_small n (omega (arith, ends.0)) (omega (arith, ends.1)))
          | inr second ↦
              let parts = and_parts (b == 0xD1) (nat_le 0x80 c && nat_le c 0x9F) second in
              let is = eqb-true b 0xD1 parts.0 in
              let ends = ends_of 0x80 0x9F c parts.1 in
              (omega arith, omega arith, omega (arith, ends.0), omega (arith, ends.1), cyrillic_small n (omega (arith, ends.0)) (omega (arith, ends.1)))
        ]
        | inr latin ↦
            let parts = and_parts (b == 0xC3) (nat_le 0x9F c && nat_le c 0xBF) latin in
            let is = eqb-true b 0xC3 parts.0 in
            let ends = ends_of 0x9F 0xBF c parts.1 in
            (omega arith, omega arith, omega (arith, ends.0), omega (arith, ends.1), latin_small n (omega (arith, ends.0)) (omega (arith, ends.1)))
      ]
      | inr long ↦
          let parts = and_parts (b == 0xC5) (c == 0x91 || c == 0xB1) long in
          let is = eqb-true b 0xC5 parts.0 in
          elim (or_cases (c == 0x91) (c == 0xB1) parts.1) [
            | inl o ↦ let at = eqb-true c 0x91 o in (omega arith, omega arith, omega arith, omega arith, long_small n (inl (omega arith)))
            | inr u ↦ let at = eqb-true c 0xB1 u in (omega arith, omega arith, omega arith, omega arith, long_small n (inr (omega arith)))
          ]
    ]

-- The rest after a letter of ASCII, after a pair, and where there is neither.
pub lower_goes_on : (word : List ℕ) (at : ℕ) → at + 1 < length word → is_ascii_lowercase (slice_index word at) ≡ true → are_common_lowercase (drop at word) ≡ are_common_lowercase (drop (at + 1) word)
lower_goes_on word at lt lower = after_lower word at lt (lower_below (slice_index word at) lower) lower

-- The rest after two letters of ASCII; the second may be the last byte.
pub two_letters_go_on : (word : List ℕ) (at : ℕ) → at + 1 < length word → is_ascii_lowercase (slice_index word at) ≡ true → is_ascii_lowercase (slice_index word (at + 1)) ≡ true
    → are_common_lowercase (drop at word) ≡ are_common_lowercase (drop (at + 2) word)
two_letters_go_on word at lt first second =
    lower_goes_on word at lt first
    ∙ elim (cases_lt (at + 2) (length word)) [
      | inl more ↦ lower_goes_on word (at + 1) (omega arith) second ∙ ap (λ (k : ℕ). are_common_lowercase (drop k word)) (omega arith)
      | inr end ↦ one_left word (at + 1) lt (omega arith) ∙ second ∙ sym (none_left word (at + 2) end)
    ]

pub pair_goes_on : (word : List ℕ) (at : ℕ) → at + 1 < length word → is_common_pair (slice_index word at) (slice_index word (at + 1)) ≡ true → are_common_lowercase (drop at word) ≡ are_common_lowercase (drop (at + 2) word)
pair_goes_on word at lt pair = let lead = (pair_small (slice_index word at) (slice_index word (at + 1)) pair).0 in after_pair word at lt (omega arith) pair

pub neither_goes_on : (word : List ℕ) (at : ℕ) → at + 1 < length word → is_ascii_lowercase (slice_index word at) ≡ false → is_common_pair (slice_index word at) (slice_index word (at + 1)) ≡ false → are_common_lowercase (drop at word) ≡ false
neither_goes_on word at lt other apart = elim (cases_lt (slice_index word at) 0x80) [ inl below ↦ no_lower word at lt below other | inr above ↦ no_pair word at lt above apart ]

-- Bytes of common lowercase letters decode to such letters.
all_small : (c : ℕ) (cs spelt : List ℕ) → spelt ≡ c ∷ cs → is_common_lowercase c ≡ true → list_all is_common_lowercase cs ≡ true → list_all is_common_lowercase spelt ≡ true
all_small c cs spelt is first rest = ap (list_all is_common_lowercase) is ∙ ap (λ t. t && list_all is_common_lowercase cs) first ∙ rest

pub letters_spelt : (word : List ℕ) → are_common_lowercase word ≡ true → list_all is_common_lowercase (chars word) ≡ true
letters_spelt [] e = ap (list_all is_common_lowercase) chars-nil
letters_spelt (b ∷ []) e = all_small b (chars []) (chars (b ∷ [])) (chars_ascii b [] (lower_below b e)) (lower_small b e) (ap (list_all is_common_lowercase) chars-nil)
letters_spelt (b ∷ c ∷ bs) e = elim (cases_lt b 0x80) [
  | inl below ↦
      let parts = and_parts (is_ascii_lowercase b) (are_common_lowercase (c ∷ bs)) (sym (lower_first b c bs below) ∙ e) in
      all_small b (chars (c ∷ bs)) (chars (b ∷ c ∷ bs)) (chars_ascii b (c ∷ bs) below) (lower_small b parts.0) (letters_spelt (c ∷ bs) parts.1)
  | inr above ↦
      let parts = and_parts (is_common_pair b c) (are_common_lowercase bs) (sym (pair_first b c bs above) ∙ e) in
      let pair = pair_small b c parts.0 in
      all_small ((b - 192) * 64 + (c - 128)) (chars bs) (chars (b ∷ c ∷ bs)) (chars_pair b c bs (omega (arith, pair.0)) pair.1) pair.4 (letters_spelt bs parts.1)
]

pub small_not_upper : (c : ℕ) → is_common_lowercase c ≡ true → is_uppercase c ≡ false
unfolding uppercase_ranges
small_not_upper c e =
    elim (or_cases (((nat_le 0x61 c && nat_le c 0x7A) || (nat_le 0xDF c && nat_le c 0xFF)) || (nat_le 0x430 c && nat_le c 0x45F)) (c == 0x151 || c == 0x171) e) [
      | inl ranged ↦ elim (or_cases ((nat_le 0x61 c && nat_le c 0x7A) || (nat_le 0xDF c && nat_le c 0xFF)) (nat_le 0x430 c && nat_le c 0x45F) ranged) [
        | inl latin ↦ elim (or_cases (nat_le 0x61 c && nat_le c 0x7A) (nat_le 0xDF c && nat_le c 0xFF) latin) [
          | inl ascii ↦ let ends = ends_of 0x61 0x7A c ascii in none_upper_between 0x61 0x7A c refl ends.0 ends.1
          | inr more ↦ let ends = ends_of 0xDF 0xFF c more in none_upper_between 0xDF 0xFF c refl ends.0 ends.1
        ]
        | inr cyrillic ↦ let ends = ends_of 0x430 0x45F c cyrillic in none_upper_between 0x430 0x45F c refl ends.0 ends.1
      ]
      | inr alone ↦ elim (or_cases (c == 0x151) (c == 0x171) alone) [
        | inl o ↦ let is = eqb-true c 0x151 o in none_upper_between 0x151 0x151 c refl (omega arith) (omega arith)
        | inr u ↦ let is = eqb-true c 0x171 u in none_upper_between 0x171 0x171 c refl (omega arith) (omega arith)
      ]
    ]

pub small_not_soft : (c : ℕ) → is_common_lowercase c ≡ true → (c == 0xAD) ≡ false
small_not_soft c e =
    elim (c == 0xAD) as (λ t. (c == 0xAD) ≡ t → t ≡ false) [
      | true ↦ λ is. let bad : is_common_lowercase 0xAD ≡ true = subst (λ x. is_common_lowercase x ≡ true) (eqb-true c 0xAD is) e in absurd cc
      | false ↦ λ is. refl
    ] refl

none_upper : (cs : List ℕ) → list_all is_common_lowercase cs ≡ true → list_any is_uppercase cs ≡ false
none_upper [] e = refl
none_upper (c ∷ cs) e = let parts = and_parts (is_common_lowercase c) (list_all is_common_lowercase cs) e in rw (small_not_upper c parts.0) (none_upper cs parts.1)

none_soft : (cs : List ℕ) (j : ℕ) → list_all is_common_lowercase cs ≡ true → (slice_index cs j == 0xAD) ≡ false
none_soft [] zero e = refl
none_soft [] (suc j) e = refl
none_soft (c ∷ cs) zero e = small_not_soft c (and_parts (is_common_lowercase c) (list_all is_common_lowercase cs) e).0
none_soft (c ∷ cs) (suc j) e = none_soft cs j (and_parts (is_common_lowercase c) (list_all is_common_lowercase cs) e).1

pub common_fold : (word : List ℕ) → IsUtf8 word → are_common_lowercase word ≡ true → fold_case word ≡ word
common_fold word u e = fold_stays word u (none_upper (chars word) (letters_spelt word e))

stays : (word : List ℕ) (p : ℕ) → IsUtf8 word → fold_case word ≡ word → IsCharBoundary (fold_case word) p → carried_back word p ≡ p
stays word p u same at =
    ap (λ t. place_of_character word (length (chars (take p t)))) same ∙ sym (place_of_boundary word p u (subst (λ t. IsCharBoundary t p) same at))

pub common_breaks : (rules : Rules) (word : List ℕ) (kept : List Break) → IsUtf8 word → are_common_lowercase word ≡ true → Ascending (fold_case word) (opportunities rules (fold_case word))
    → kept ≡ kept_breaks (range_holds_no_shift (length word) []) (opportunities rules word) → kept ≡ fitted_breaks_of rules word
common_breaks rules word kept u e ascend is =
    let same = common_fold word u e in
    let letters = letters_spelt word e in
    breaks_where_unmoved rules word word kept (stays_without_shifts word (none_upper (chars word) letters)) (none_at_all word (λ j. none_soft (chars word) j letters)) (λ p at. stays word p u same at) (sym same) ascend is
