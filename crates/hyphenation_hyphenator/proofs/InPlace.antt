-- Words that fold over as many bytes: no place moves, and they have no soft hyphens.
use Rattle.std.proofs.Common.{◌≡◌, ℕ, zero, suc, ◌+◌, ◌-◌, ◌*◌, ◌/◌, ◌%◌, ◌<◌, ◌≤◌, ◌==◌, ◌&&◌, ◌||◌, not, nat_le, nat_lt, leb-true, le-leb, ltb-true, eqb-true, Bool, true, false, List, [], ◌∷◌, ◌++◌, length, map, take, drop, chars, slice_index, pos, ◌-ℤ◌, refl, sym, ap, subst, ◌∙◌, arith, inl, inr}
use Rattle.std.specs.Char.{encode_utf8, to_ascii_lowercase}
use Rattle.std.specs.List.{list_all}
use Rattle.std.specs.Str.{IsAscii, IsUtf8, encode_utf8_all}
use Rattle.std.proofs.Math.ListN.{set}
use Rattle.std.proofs.Math.Seq.{drop-cons}
use Rattle.std.proofs.lemmas.Bool.{and_parts, cases_lt, lt-ltb, le-ltb}
use Rattle.std.proofs.lemmas.Int.{ints}
use Rattle.std.proofs.lemmas.List.{drop_all, take_all, length-set, take_more_set, append_assoc, append-nil}
use Rattle.std.proofs.lemmas.Str.{chars-nil, chars-IsAscii, encode_ascii}
use Rattle.std.proofs.lemmas.Str.Ascii.{lowercase_ascii}
use Rattle.hyphenation_breaks.specs.Break.{Break}
use Rattle.hyphenation_hyphenator.specs.Fitting.{kept_breaks, fitted_breaks_of}
use Rattle.hyphenation_hyphenator.specs.Private.Fitting.{range_holds_no_shift}
use Rattle.hyphenation_hyphenator.specs.Folding.{fold_character, fold_case, carried_back, shifts_of, delta_below}
use Rattle.hyphenation_hyphenator.specs.Opportunities.{Rules, opportunities, Ascending}
use Rattle.hyphenation_hyphenator.specs.Places.{place_of_character}
use Rattle.hyphenation_hyphenator.specs.Private.CommonLowercase.{is_common_pair}
use Rattle.hyphenation_hyphenator.specs.Private.InPlace.{folds_in_place}
use Rattle.hyphenation_hyphenator.proofs.AsciiWords.{folds_small, keeps_length}
use Rattle.hyphenation_hyphenator.proofs.CommonLowercase.{chars_ascii, chars_pair, pair_small, small_not_upper, small_not_soft}
use Rattle.hyphenation_hyphenator.proofs.Folds.{carried_place, folds_to_itself, fold_is_utf8, as_many_characters}
use Rattle.hyphenation_hyphenator.proofs.Places.{place_of_boundary, boundary_within}
use Rattle.hyphenation_hyphenator.proofs.Shifts.{delta_is_growth, no_shifts}
use Rattle.hyphenation_hyphenator.proofs.SoftHyphens.{none_at_all}
use Rattle.hyphenation_hyphenator.proofs.UnmovedPlaces.{breaks_where_unmoved, MovesNothing}

-- ---- by their bytes

-- The two bytes of a character.
pub encode_pair : (c : ℕ) → 0x80 ≤ c → c < 0x800 → encode_utf8 c ≡ (0xC0 + c / 64) ∷ (0x80 + c % 64) ∷ []
unfolding encode_utf8
encode_pair c low high = rw (le-ltb c 0x80 low, lt-ltb c 0x800 high) refl

small_fold : (c : ℕ) → c < 0x80 → encode_utf8 (fold_character c) ≡ to_ascii_lowercase c ∷ []
small_fold c below = ap encode_utf8 (folds_small c below) ∙ encode_ascii (to_ascii_lowercase c) (lowercase_ascii c below)

fold_first : (text : List ℕ) (c : ℕ) (cs : List ℕ) → chars text ≡ c ∷ cs → fold_case text ≡ encode_utf8 (fold_character c) ++ encode_utf8_all (map fold_character cs)
fold_first text c cs is = ap (λ ds. encode_utf8_all (map fold_character ds)) is

all_first : (text : List ℕ) (c : ℕ) (cs : List ℕ) → chars text ≡ c ∷ cs → folds_in_place c ≡ true → list_all folds_in_place (chars text) ≡ list_all folds_in_place cs
all_first text c cs is here = ap (list_all folds_in_place) is ∙ ap (λ t. t && list_all folds_in_place cs) here

small_in_place : (c : ℕ) → c < 0x80 → folds_in_place c ≡ true
small_in_place c below =
    ap (λ t. t || ((not (c == 0xAD) && nat_lt c 0x800) && (nat_le 0x80 (fold_character c) && nat_lt (fold_character c) 0x800))) (lt-ltb c 0x80 below)

-- The bytes up to a place are folded, and so is each character before it.
pub record FoldedTo (bytes folded : List ℕ) (at : ℕ) : Type 0 where
  pub within : at ≤ length bytes
  pub long : length folded ≡ length bytes
  pub written : take at folded ++ fold_case (drop at bytes) ≡ fold_case bytes
  pub in_place : list_all folds_in_place (chars bytes) ≡ list_all folds_in_place (chars (drop at bytes))

pub folded_none : (bytes folded : List ℕ) → length folded ≡ length bytes → FoldedTo bytes folded 0
folded_none bytes folded long = record { within = omega arith; long = long; written = refl; in_place = refl }

one_left : (bytes : List ℕ) (at : ℕ) → at < length bytes → drop at bytes ≡ slice_index bytes at ∷ drop (at + 1) bytes
one_left bytes at lt = let next : suc at ≡ at + 1 = omega arith in drop-cons bytes at 0 lt ∙ ap (λ (k : ℕ). slice_index bytes at ∷ drop k bytes) next

pub folded_letter : (bytes folded : List ℕ) (at small : ℕ) → at < length bytes → slice_index bytes at < 0x80 → small ≡ to_ascii_lowercase (slice_index bytes at) → FoldedTo bytes folded at → FoldedTo bytes (set folded at small) (at + 1)
folded_letter bytes folded at small lt below is f =
    let b = slice_index bytes at in
    let rest = drop (at + 1) bytes in
    let split : chars (drop at bytes) ≡ b ∷ chars rest = ap chars (one_left bytes at lt) ∙ chars_ascii b rest below in
    record {
      within = omega arith;
      long = length-set folded at small ∙ f.long;
      written = ap (λ xs. xs ++ fold_case rest) (take_more_set folded at small (omega (arith, f.long)))
          ∙ append_assoc (take at folded) (small ∷ []) (fold_case rest)
          ∙ ap (λ xs. take at folded ++ xs) (ap (λ x. x ∷ fold_case rest) is ∙ sym (fold_first (drop at bytes) b (chars rest) split ∙ ap (λ xs. xs ++ fold_case rest) (small_fold b below)))
          ∙ f.written;
      in_place = f.in_place ∙ all_first (drop at bytes) b (chars rest) split (small_in_place b below);
    }

pub folded_pair : (bytes folded : List ℕ) (at first second : ℕ) → at + 1 < length bytes → 0xC0 ≤ slice_index bytes at → slice_index bytes at < 0xE0
    → folds_in_place ((slice_index bytes at - 0xC0) * 64 + (slice_index bytes (at + 1) - 0x80)) ≡ true
    → encode_utf8 (fold_character ((slice_index bytes at - 0xC0) * 64 + (slice_index bytes (at + 1) - 0x80))) ≡ first ∷ second ∷ []
    → FoldedTo bytes folded at → FoldedTo bytes (set (set folded at first) (at + 1) second) (at + 2)
folded_pair bytes folded at first second lt low high here is f =
    let b = slice_index bytes at in
    let c = slice_index bytes (at + 1) in
    let rest = drop (at + 2) bytes in
    let n = (b - 0xC0) * 64 + (c - 0x80) in
    let after : (at + 1) + 1 ≡ at + 2 = omega arith in
    let left : drop at bytes ≡ b ∷ c ∷ rest = one_left bytes at (omega arith) ∙ ap (λ bs. b ∷ bs) (one_left bytes (at + 1) lt ∙ ap (λ (k : ℕ). c ∷ drop k bytes) after) in
    let split : chars (drop at bytes) ≡ n ∷ chars rest = ap chars left ∙ chars_pair b c rest low high in
    let one = set folded at first in
    let one_long : length one ≡ length bytes = length-set folded at first ∙ f.long in
    let both : take (at + 2) (set one (at + 1) second) ≡ take at folded ++ first ∷ second ∷ [] =
    ap (λ k. take k (set one (at + 1) second)) (sym after) ∙ take_more_set one (at + 1) second (omega (arith, one_long)) ∙ ap (λ xs. xs ++ second ∷ []) (take_more_set folded at first (omega (arith, f.long))) ∙ append_assoc (take at folded) (first ∷ []) (second ∷ []) in
    record {
      within = omega arith;
      long = length-set one (at + 1) second ∙ one_long;
      written = ap (λ xs. xs ++ fold_case rest) both
          ∙ append_assoc (take at folded) (first ∷ second ∷ []) (fold_case rest)
          ∙ ap (λ xs. take at folded ++ xs) (sym (fold_first (drop at bytes) n (chars rest) split ∙ ap (λ xs. xs ++ fold_case rest) is))
          ∙ f.written;
      in_place = f.in_place ∙ all_first (drop at bytes) n (chars rest) split here;
    }

nothing_folded : fold_case [] ≡ []
nothing_folded = ap (λ cs. encode_utf8_all (map fold_character cs)) chars-nil

pub folded_all : (bytes folded : List ℕ) (at : ℕ) → length bytes ≤ at → FoldedTo bytes folded at → (list_all folds_in_place (chars bytes) ≡ true) × (folded ≡ fold_case bytes)
folded_all bytes folded at ge f =
    let none : drop at bytes ≡ [] = drop_all at bytes ge in (
      f.in_place ∙ ap (λ bs. list_all folds_in_place (chars bs)) none ∙ ap (list_all folds_in_place) chars-nil,
      sym (append-nil folded) ∙ ap (λ xs. folded ++ xs) (sym (ap fold_case none ∙ nothing_folded)) ∙ ap (λ xs. xs ++ fold_case (drop at bytes)) (sym (take_all at folded (omega (arith, f.long)))) ∙ f.written,
    )

in_place_from : (n : ℕ) → 0x80 ≤ n → n < 0x800 → (n == 0xAD) ≡ false → fold_character n ≡ n → folds_in_place n ≡ true
in_place_from n low high soft same =
    let all : (nat_lt n 0x80 || ((not (n == 0xAD) && nat_lt n 0x800) && (nat_le 0x80 n && nat_lt n 0x800))) ≡ true = rw (le-ltb n 0x80 low, soft, lt-ltb n 0x800 high, le-leb 0x80 n low) refl in
    ap (λ f. nat_lt n 0x80 || ((not (n == 0xAD) && nat_lt n 0x800) && (nat_le 0x80 f && nat_lt f 0x800))) same ∙ all

pub common_pair_stays : (b c : ℕ) → is_common_pair b c ≡ true
    → (folds_in_place ((b - 0xC0) * 64 + (c - 0x80)) ≡ true) × (encode_utf8 (fold_character ((b - 0xC0) * 64 + (c - 0x80))) ≡ b ∷ c ∷ [])
common_pair_stays b c e =
    let n = (b - 0xC0) * 64 + (c - 0x80) in
    let pair = pair_small b c e in
    let letter = pair.4 in
    let same : fold_character n ≡ n = folds_to_itself n (small_not_upper n letter) in
    let low : 0x80 ≤ n = omega (arith, pair.0, pair.2) in
    let high : n < 0x800 = omega (arith, pair.1, pair.3) in
    let first : 0xC0 + n / 64 ≡ b = omega (arith, pair.0, pair.2, pair.3) in
    let second : 0x80 + n % 64 ≡ c = omega (arith, pair.2, pair.3) in (
      in_place_from n low high (small_not_soft n letter) same,
      ap encode_utf8 same ∙ encode_pair n low high ∙ ap (λ x. x ∷ (0x80 + n % 64) ∷ []) first ∙ ap (λ y. b ∷ y ∷ []) second,
    )

-- ---- by their characters

at_index : (test : ℕ → Bool) (xs : List ℕ) (i : ℕ) → list_all test xs ≡ true → i < length xs → test (slice_index xs i) ≡ true
at_index test [] i h lt = absurd (omega arith)
at_index test (x ∷ xs) zero h lt = (and_parts (test x) (list_all test xs) h).0
at_index test (x ∷ xs) (suc i) h lt = at_index test xs i (and_parts (test x) (list_all test xs) h).1 (omega arith)

not_soft : (c : ℕ) → folds_in_place c ≡ true → (c == 0xAD) ≡ false
not_soft c e =
    elim (c == 0xAD) as (λ t. (c == 0xAD) ≡ t → t ≡ false) [
      | true ↦ λ is. let bad : folds_in_place 0xAD ≡ true = subst (λ x. folds_in_place x ≡ true) (eqb-true c 0xAD is) e in absurd cc
      | false ↦ λ is. refl
    ] refl

none_soft : (cs : List ℕ) (j : ℕ) → list_all folds_in_place cs ≡ true → (slice_index cs j == 0xAD) ≡ false
none_soft [] zero e = refl
none_soft [] (suc j) e = refl
none_soft (c ∷ cs) zero e = not_soft c (and_parts (folds_in_place c) (list_all folds_in_place cs) e).0
none_soft (c ∷ cs) (suc j) e = none_soft cs j (and_parts (folds_in_place c) (list_all folds_in_place cs) e).1

stays_long : (c : ℕ) → folds_in_place c ≡ true → not (length (encode_utf8 (fold_character c)) == length (encode_utf8 c)) ≡ false
stays_long c e = elim (cases_lt c 0x80) [
  | inl below ↦ keeps_length c below
  | inr above ↦
      let small = not (c == 0xAD) && nat_lt c 0x800 in
      let two = nat_le 0x80 (fold_character c) && nat_lt (fold_character c) 0x800 in
      let wide : (small && two) ≡ true = sym (ap (λ t. t || (small && two)) (le-ltb c 0x80 above)) ∙ e in
      let parts = and_parts small two wide in
      let below = ltb-true c 0x800 (and_parts (not (c == 0xAD)) (nat_lt c 0x800) parts.0).1 in
      let ends = and_parts (nat_le 0x80 (fold_character c)) (nat_lt (fold_character c) 0x800) parts.1 in
      ap (λ xs. not (length xs == length (encode_utf8 c))) (encode_pair (fold_character c) (leb-true 0x80 (fold_character c) ends.0) (ltb-true (fold_character c) 0x800 ends.1))
      ∙ ap (λ (xs : List ℕ). not (2 == length xs)) (encode_pair c above below)
]

unmoved : (word : List ℕ) → IsUtf8 word → shifts_of word ≡ [] → MovesNothing word
unmoved word u none = λ p at.
    let folded = fold_case word in
    let j = length (chars (take p folded)) in
    let is : p ≡ place_of_character folded j = place_of_boundary folded p (fold_is_utf8 word u) at in
    let within : j ≤ length (chars word) = omega (arith, boundary_within folded p (fold_is_utf8 word u) at, as_many_characters word u) in
    let grown : pos 0 ≡ pos (place_of_character folded j) -ℤ pos (place_of_character word j) = sym (ap (λ s. delta_below s (place_of_character folded j)) none) ∙ delta_is_growth word j u within in
    let same : place_of_character word j ≡ place_of_character folded j = omega (arith, ints) in
    ap (carried_back word) is ∙ carried_place word j u ∙ same ∙ sym is

-- The kept breaks of the folded word are the breaks of the word as written.
pub in_place_breaks : (rules : Rules) (word folded : List ℕ) (kept : List Break) → IsUtf8 word → list_all folds_in_place (chars word) ≡ true → folded ≡ fold_case word → Ascending (fold_case word) (opportunities rules (fold_case word))
    → kept ≡ kept_breaks (range_holds_no_shift (length folded) []) (opportunities rules folded) → kept ≡ fitted_breaks_of rules word
in_place_breaks rules word folded kept u e folded_is ascend is =
    let none : shifts_of word ≡ [] = no_shifts word (length (chars word)) (λ j lt. stays_long (slice_index (chars word) j) (at_index folds_in_place (chars word) j e lt)) in
    breaks_where_unmoved rules word folded kept none (none_at_all word (λ j. none_soft (chars word) j e)) (unmoved word u none) folded_is ascend is

all_in_place : (cs : List ℕ) → IsAscii cs → list_all folds_in_place cs ≡ true
all_in_place [] a = refl
all_in_place (c ∷ cs) a = ap (λ t. t && list_all folds_in_place cs) (small_in_place c (a 0)) ∙ all_in_place cs (λ i. a (suc i))

pub ascii_in_place : (word : List ℕ) → IsAscii word → list_all folds_in_place (chars word) ≡ true
ascii_in_place word a = ap (list_all folds_in_place) (chars-IsAscii word a) ∙ all_in_place word a
