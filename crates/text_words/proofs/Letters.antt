-- Letters are no sign of a name.
use Rattle.std.proofs.Common.{◌≡◌, ℕ, ◌&&◌, ◌||◌, Bool, true, false, not, List, [], ◌∷◌, refl, ap, sym, ◌∙◌, codes, nat_eq, take}
use Rattle.std.specs.Char.{is_ascii_alphabetic}
use Rattle.std.specs.Cmp.Lexicographic.{pointwise}
use Rattle.std.specs.List.{list_all, starts_with}
use Rattle.std.proofs.lemmas.Bool.{and_parts, ne_eqb, false≢true}
use Rattle.text_words.specs.Names.{is_of_word, begins_with_at, begins_with_mark, begins_with_path, begins_with_sign, ends_name, has_end_of, has_sign, is_name, names_in, LettersAreNoName}
use Rattle.text_words.specs.declared.names.TheConstants.{ENDINGS}

-- A letter is no other byte.
differ : (b c : ℕ) → is_ascii_alphabetic b ≡ true → is_ascii_alphabetic c ≡ false → b ≡ c → ⊥
differ b c letter other e = false≢true (sym other ∙ ap is_ascii_alphabetic (sym e) ∙ letter)

is_no : (b c : ℕ) → is_ascii_alphabetic b ≡ true → is_ascii_alphabetic c ≡ false → nat_eq c b ≡ false
is_no b c letter other = ne_eqb c b (λ e. differ b c letter other (sym e))

not_this : (b c : ℕ) → is_ascii_alphabetic b ≡ true → is_ascii_alphabetic c ≡ false → nat_eq b c ≡ false
not_this b c letter other = ne_eqb b c (differ b c letter other)

and_no : (a b : Bool) → b ≡ false → a && b ≡ false
and_no true b e = e
and_no false b e = refl

neither : (a b : Bool) → a ≡ false → b ≡ false → a || b ≡ false
neither true b e f = cc
neither false b e f = f

no_scheme : (b : ℕ) (bs : List ℕ) → is_ascii_alphabetic b ≡ true → starts_with nat_eq (b ∷ bs) (codes ":/") ≡ false
no_scheme b bs letter = ap (λ t. t && pointwise nat_eq (47 ∷ []) (take 1 bs)) (is_no b 58 letter refl)

no_host : (text : List ℕ) → list_all is_ascii_alphabetic text ≡ true → starts_with nat_eq text (codes "www.") ≡ false
no_host [] all = refl
no_host (a ∷ []) all = and_no (nat_eq 119 a) false refl
no_host (a ∷ b ∷ []) all = and_no (nat_eq 119 a) _ (and_no (nat_eq 119 b) false refl)
no_host (a ∷ b ∷ c ∷ []) all = and_no (nat_eq 119 a) _ (and_no (nat_eq 119 b) _ (and_no (nat_eq 119 c) false refl))
no_host (a ∷ b ∷ c ∷ d ∷ text) all =
    let first = and_parts (is_ascii_alphabetic a) (list_all is_ascii_alphabetic (b ∷ c ∷ d ∷ text)) all in
    let second = and_parts (is_ascii_alphabetic b) (list_all is_ascii_alphabetic (c ∷ d ∷ text)) first.1 in
    let third = and_parts (is_ascii_alphabetic c) (list_all is_ascii_alphabetic (d ∷ text)) second.1 in
    let fourth = and_parts (is_ascii_alphabetic d) (list_all is_ascii_alphabetic text) third.1 in
    and_no (nat_eq 119 a) _ (and_no (nat_eq 119 b) _ (and_no (nat_eq 119 c) _ (ap (λ t. t && true) (is_no d 46 fourth.0 refl))))

no_at : (before b : ℕ) (bs : List ℕ) → is_ascii_alphabetic b ≡ true → begins_with_at before (b ∷ bs) ≡ false
no_at before b [] letter = refl
no_at before b (c ∷ cs) letter = ap (λ t. t && is_of_word before && is_of_word c) (not_this b 64 letter refl)

no_mark : (b : ℕ) (bs : List ℕ) → is_ascii_alphabetic b ≡ true → begins_with_mark (b ∷ bs) ≡ false
no_mark b bs letter = neither (nat_eq b 92) (nat_eq b 95) (not_this b 92 letter refl) (not_this b 95 letter refl)

no_path : (before b : ℕ) (bs : List ℕ) → is_ascii_alphabetic b ≡ true → begins_with_path before (b ∷ bs) ≡ false
no_path before b [] letter = refl
no_path before b (c ∷ cs) letter =
    let slash = ap (λ t. t && is_of_word c) (not_this b 47 letter refl) in
    let dots = ap (λ t. t && nat_eq c 47) (neither (nat_eq b 46) (nat_eq b 126) (not_this b 46 letter refl) (not_this b 126 letter refl)) in
    and_no (not (is_of_word before)) _ (neither (nat_eq b 47 && is_of_word c) ((nat_eq b 46 || nat_eq b 126) && nat_eq c 47) slash dots)

no_end : (before b : ℕ) (bs : List ℕ) → is_ascii_alphabetic b ≡ true → ends_name before (b ∷ bs) ≡ false
no_end before b bs letter = ap (λ t. t && is_of_word before && has_end_of bs (names_in ENDINGS)) (not_this b 46 letter refl)

begins_with_no_sign : (before b : ℕ) (bs : List ℕ) → list_all is_ascii_alphabetic (b ∷ bs) ≡ true → begins_with_sign before (b ∷ bs) ≡ false
unfolding begins_with_sign
begins_with_no_sign before b bs all =
    let letter = and_parts (is_ascii_alphabetic b) (list_all is_ascii_alphabetic bs) all in
    let l = letter.0 in
    neither _ _ (neither _ _ (neither _ _ (neither _ _ (neither _ _ (no_scheme b bs l) (no_host (b ∷ bs) all)) (no_at before b bs l)) (no_mark b bs l)) (no_path before b bs l)) (no_end before b bs l)

no_sign : (before : ℕ) (text : List ℕ) → list_all is_ascii_alphabetic text ≡ true → has_sign before text ≡ false
no_sign before [] all = refl
no_sign before (b ∷ bs) all =
    let letter = and_parts (is_ascii_alphabetic b) (list_all is_ascii_alphabetic bs) all in
    neither (begins_with_sign before (b ∷ bs)) (has_sign b bs) (begins_with_no_sign before b bs all) (no_sign b bs letter.1)

pub no_name : LettersAreNoName
unfolding is_name
no_name text all = no_sign 0 text all
