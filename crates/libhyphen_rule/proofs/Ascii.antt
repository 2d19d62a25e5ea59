-- Words of ASCII, in which each byte is a character.
use Rattle.std.proofs.Common.{◌≡◌, ◌∙◌, ℕ, zero, suc, ◌+◌, ◌<◌, Bool, true, false, List, [], ◌∷◌, ◌++◌, length, map, refl, sym, ap, subst, arith, inl, inr, nat_lt, add-one, zero-add, get_or}
use Rattle.std.specs.Prelude.{◌||◌, ◌&&◌, ◌==◌, filter, slice_index, slice_index_or, Option, None, is_some, option_map}
use Rattle.std.specs.List.{list_all, list_any, range_with_len}
use Rattle.std.proofs.lemmas.Bool.{cases_lt, and_parts, or_right}
use Rattle.std.proofs.lemmas.Bool.Decides.{nat_tests}
use Rattle.std.proofs.lemmas.List.FromFn.{fill_by_all, map-range_with_len_more}
use Rattle.libhyphen_rule.specs.OneLevel.{ChangeAt}
use Rattle.libhyphen_rule.specs.Words.{begins, change_in_characters, changes_of_characters, digits_of_characters, is_last, last_bytes}
use Rattle.libhyphen_rule.proofs.MarksOut.{no_change_at}
use Rattle.libhyphen_rule.proofs.WordSteps.{kept_more}

abbrev pub is_small : ℕ → Bool
is_small b = nat_lt b 128

all_at : (p : ℕ → Bool) (xs : List ℕ) (k : ℕ) → list_all p xs ≡ true → k < length xs → p (get_or xs k 0) ≡ true
all_at p [] k h l = absurd (omega arith)
all_at p (x ∷ xs) zero h l = (and_parts (p x) (list_all p xs) h).0
all_at p (x ∷ xs) (suc k) h l = all_at p xs k (and_parts (p x) (list_all p xs) h).1 (omega arith)

small_begins : (b : ℕ) → is_small b ≡ true → begins b ≡ true
small_begins b h = grind (arith, nat_tests)

last : (word : List ℕ) (byte : ℕ) → list_all is_small word ≡ true → byte < length word → is_last word byte ≡ true
last word byte all l = elim (cases_lt (byte + 1) (length word)) [
  | inl lt ↦ ap (λ b. (byte + 1 == length word) || b) (small_begins (slice_index word (byte + 1)) (all_at is_small word (byte + 1) all lt)) ∙ or_right _ true refl
  | inr le ↦ let e : (byte + 1 == length word) ≡ true = grind (arith, nat_tests) in ap (λ b. b || begins (slice_index word (byte + 1))) e
]

all_kept : {Y : Type 0} (f : ℕ → Y) (p : ℕ → Bool) (n : ℕ) → ((k : ℕ) → k < n → p k ≡ true)
    → map f (filter p (range_with_len 0 n)) ≡ map f (range_with_len 0 n)
all_kept f p zero h = refl
all_kept f p (suc n) h =
    let more : map f (filter p (range_with_len 0 (n + 1))) ≡ map f (range_with_len 0 (n + 1)) =
    kept_more f p n (h n (omega arith)) ∙ ap (λ xs. xs ++ f n ∷ []) (all_kept f p n (λ k l. h k (omega arith)))
    ∙ sym (map-range_with_len_more f 0 n n (zero-add n)) in
    subst (λ (m : ℕ). map f (filter p (range_with_len 0 m)) ≡ map f (range_with_len 0 m)) (add-one n) more

-- The digits of a word of ASCII are those of its characters.
pub ascii_digits : (word digits : List ℕ) → list_all is_small word ≡ true → length digits ≡ length word → digits ≡ digits_of_characters word digits
unfolding last_bytes
ascii_digits word digits all long =
    let digit : ℕ → ℕ = λ byte. slice_index digits byte in
    fill_by_all digit digits (length word) 0 long (λ k l. refl)
    ∙ sym (all_kept digit (is_last word) (length word) (λ k l. last word k all l))

-- So are its changes, where there are none.
pub ascii_changes : (word text : List ℕ) (changes : List (Option ChangeAt)) → list_all is_small word ≡ true → length changes ≡ length word
    → list_any is_some changes ≡ false → changes ≡ changes_of_characters word text changes
unfolding last_bytes
ascii_changes word text changes all long none =
    let change : ℕ → Option ChangeAt = λ byte. option_map (change_in_characters text byte) (slice_index_or changes byte None) in
    fill_by_all change changes (length word) None long (λ k l. no_change_at changes k none ∙ ap (option_map (change_in_characters text k)) (sym (no_change_at changes k none)))
    ∙ sym (all_kept change (is_last word) (length word) (λ k l. last word k all l))

-- Each byte of a word is a character of ASCII where all are.
pub small_all : (word : List ℕ) → ((k : ℕ) → k < length word → get_or word k 0 < 128) → list_all is_small word ≡ true
small_all [] all = refl
small_all (x ∷ xs) all =
    let first : x < 128 = all 0 (omega arith) in
    let small : is_small x ≡ true = grind (arith, nat_tests, first) in
    ap (λ b. b && list_all is_small xs) small ∙ small_all xs (λ k l. all (suc k) (omega (arith, l)))
