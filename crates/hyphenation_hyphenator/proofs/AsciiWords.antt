-- Words of ASCII: characters are bytes, there are no soft hyphens, and folding moves no place.
use Rattle.std.proofs.Common.{◌≡◌, ℕ, suc, ◌-◌, ◌<◌, ◌≤◌, ◌==◌, not, ◌⊎◌, max, true, false, cond, nat_le, leb-true, List, [], ◌∷◌, length, map, take, Some, None, refl, sym, ap, subst, ◌∙◌, arith}
use Rattle.std.specs.Char.{encode_utf8, is_ascii_lowercase, is_ascii_uppercase, to_ascii_lowercase}
use Rattle.std.specs.List.{list_all, list_any}
use Rattle.std.specs.Str.{IsAscii, encode_utf8_all}
use Rattle.std.proofs.lemmas.Bool.{and_parts}
use Rattle.std.proofs.lemmas.List.{length-take-le}
use Rattle.std.proofs.lemmas.Str.{chars-IsAscii, encodes-IsAscii, encode_ascii, IsAscii-take, IsUtf8-from_ascii}
use Rattle.std.proofs.lemmas.Str.Ascii.{IsAscii-cons, IsAscii-nil, IsAscii-map, lowercase_ascii}
use Rattle.unicode.specs.Binary.{is_uppercase}
use Rattle.unicode.specs.CaseFolding.{simple_fold}
use Rattle.hyphenation_hyphenator.specs.Boundaries.{boundaries}
use Rattle.hyphenation_hyphenator.specs.Folding.{fold_character, fold_case}
use Rattle.hyphenation_hyphenator.specs.Places.{place_of_character}
use Rattle.hyphenation_hyphenator.proofs.CapitalRanges.{is_uppercase_ascii}
use Rattle.hyphenation_hyphenator.proofs.CharacterPlaces.{bounds_met, bounds_missed}
use Rattle.hyphenation_hyphenator.proofs.FoldingRows.{capitals_fold}
use Rattle.hyphenation_hyphenator.proofs.Folds.{fold_stays}

-- ---- letters a to z

letter_below : (c : ℕ) → is_ascii_lowercase c ≡ true → c < 128
letter_below c e = let parts = and_parts (nat_le 97 c) (nat_le c 122) e in omega (arith, leb-true c 122 parts.1)

letter_is_small : (c : ℕ) → is_ascii_lowercase c ≡ true → is_ascii_uppercase c ≡ false
letter_is_small c e = let parts = and_parts (nat_le 97 c) (nat_le c 122) e in let low = leb-true 97 c parts.0 in grind (arith)

pub ascii_lowercase_ascii : (word : List ℕ) → list_all is_ascii_lowercase word ≡ true → IsAscii word
ascii_lowercase_ascii [] e = IsAscii-nil
ascii_lowercase_ascii (c ∷ cs) e = let parts = and_parts (is_ascii_lowercase c) (list_all is_ascii_lowercase cs) e in IsAscii-cons c cs (letter_below c parts.0) (ascii_lowercase_ascii cs parts.1)

small_letters : (word : List ℕ) → list_all is_ascii_lowercase word ≡ true → list_any is_uppercase word ≡ false
small_letters [] e = refl
small_letters (c ∷ cs) e =
    let parts = and_parts (is_ascii_lowercase c) (list_all is_ascii_lowercase cs) e in
    rw (sym (is_uppercase_ascii c (letter_below c parts.0)) ∙ letter_is_small c parts.0) (small_letters cs parts.1)

pub ascii_lowercase_fold : (word : List ℕ) → list_all is_ascii_lowercase word ≡ true → fold_case word ≡ word
ascii_lowercase_fold word e =
    let ascii = ascii_lowercase_ascii word e in
    fold_stays word (IsUtf8-from_ascii word ascii) (ap (list_any is_uppercase) (chars-IsAscii word ascii) ∙ small_letters word e)

-- ---- the folding of ASCII

small_stays : (c : ℕ) → is_ascii_uppercase c ≡ false → to_ascii_lowercase c ≡ c
small_stays c e = grind (arith)

pub folds_small : (c : ℕ) → c < 128 → fold_character c ≡ to_ascii_lowercase c
folds_small c lt =
    let other : (c == 0x130) ≡ false = grind (arith) in
    ap (λ b. cond b 0x69 (cond (is_uppercase c) (simple_fold c) c)) other
    ∙ elim (is_uppercase c) as (λ u. is_uppercase c ≡ u → cond u (simple_fold c) c ≡ to_ascii_lowercase c) [
      | true ↦ λ is.
          let ends = and_parts (nat_le 65 c) (nat_le c 90) (is_uppercase_ascii c lt ∙ is) in
          let last = leb-true c 90 ends.1 in
          capitals_fold c (leb-true 65 c ends.0) (omega arith)
      | false ↦ λ is. sym (small_stays c (is_uppercase_ascii c lt ∙ is))
    ] refl

all_fold_small : (cs : List ℕ) → IsAscii cs → map fold_character cs ≡ map to_ascii_lowercase cs
all_fold_small [] a = refl
all_fold_small (c ∷ cs) a = ap (λ x. x ∷ map fold_character cs) (folds_small c (a 0)) ∙ ap (λ xs. to_ascii_lowercase c ∷ xs) (all_fold_small cs (λ i. a (suc i)))

small_ascii : (word : List ℕ) → IsAscii word → IsAscii (map to_ascii_lowercase word)
small_ascii word a = IsAscii-map to_ascii_lowercase word lowercase_ascii a

pub ascii_fold : (word : List ℕ) → IsAscii word → fold_case word ≡ map to_ascii_lowercase word
ascii_fold word a =
    ap (λ cs. encode_utf8_all (map fold_character cs)) (chars-IsAscii word a) ∙ ap encode_utf8_all (all_fold_small word a) ∙ encodes-IsAscii (map to_ascii_lowercase word) (small_ascii word a)

pub fold_is_ascii : (word : List ℕ) → IsAscii word → IsAscii (fold_case word)
fold_is_ascii word a = subst IsAscii (sym (ascii_fold word a)) (small_ascii word a)

pub keeps_length : (c : ℕ) → c < 128 → not (length (encode_utf8 (fold_character c)) == length (encode_utf8 c)) ≡ false
keeps_length c lt = rw (folds_small c lt, encode_ascii (to_ascii_lowercase c) (lowercase_ascii c lt), encode_ascii c lt) refl

-- ---- places

pub ascii_place : (word : List ℕ) (j : ℕ) → IsAscii word → j ≤ length word → place_of_character word j ≡ j
ascii_place word j a le =
    ap (λ cs. length (encode_utf8_all (take j cs))) (chars-IsAscii word a) ∙ ap length (encodes-IsAscii (take j word) (IsAscii-take word j a)) ∙ length-take-le j word le

pub ascii_bounds : (l r : ℕ) (word : List ℕ) → IsAscii word → l < length word → r ≤ length word - l → boundaries l r word ≡ Some (l, length word - max r 1)
ascii_bounds l r word a below room =
    bounds_met l r (length word) word (sym (ap length (chars-IsAscii word a))) below room
    ∙ ap (λ k. Some (k, place_of_character word (length word - max r 1))) (ascii_place word l a (omega arith))
    ∙ ap (λ k. Some (l, k)) (ascii_place word (length word - max r 1) a (omega arith))

pub ascii_no_bounds : (l r : ℕ) (word : List ℕ) → IsAscii word → (length word ≤ l) ⊎ (length word - l < r) → boundaries l r word ≡ None
ascii_no_bounds l r word a miss = bounds_missed l r (length word) word (sym (ap length (chars-IsAscii word a))) miss
