-- Laws of places that are carried back.
use Rattle.std.proofs.Common.{◌≡◌, ◌⊎◌, ℕ, ◌+◌, ◌<◌, ◌≤◌, ◌&&◌, ◌||◌, ◌++◌, Bool, true, false, cond, zero, suc, List, [], ◌∷◌, All, length, filter, take, drop, nat_eq, nat_le, refl, sym, ap, ap₂, subst, ◌∙◌, arith, inl, inr}
use Rattle.std.specs.List.{list_any, range_with_len}
use Rattle.std.specs.Str.{IsAscii, bytes_eq}
use Rattle.std.proofs.lemmas.Bool.{and_parts, and_from, cases_Bool, cases_lt, eqb-true, leb-true, or_left, or_right}
use Rattle.std.proofs.lemmas.Bool.Decides.{nat_tests}
use Rattle.std.proofs.lemmas.Slice.Eq.{bytes_eq-Decides}
use Rattle.std.proofs.lemmas.Str.Ascii.{All-from_ascii}
use Rattle.std.proofs.lemmas.Str.{chars-IsAscii, IsUtf8-from_ascii}
use Rattle.unicode_normalization.specs.Forms.{Nfc, nfc}
use Rattle.unicode_normalization.proofs.FormsLemmas.{normalize-ascii}
use Rattle.hyphenation_breaks.specs.Break.{ascend_on, is_boundary}
use Rattle.composed_words.specs.Composed.{carried, composed, is_composed, stands_for_any, through_composed}
use Rattle.composed_words.specs.Laws.{has, AsciiIsComposed, CarriedAscend, ComposedBreaksAsItIs, EquivalentBreakAlike, NothingIsJoined}
use Rattle.composed_words.proofs.Compositions.{composed_if_nfc}
use Rattle.composed_words.proofs.Places.{parted, any_is, same_tests}

-- ---- ASCII

pub ascii : AsciiIsComposed
unfolding is_composed
ascii word all =
    let same = chars-IsAscii word all in
    (bytes_eq-Decides (composed word) word).1
    (composed_if_nfc word (IsUtf8-from_ascii word all) (ap nfc same ∙ normalize-ascii Nfc word (All-from_ascii word all) ∙ sym same))

-- ---- places that pass a test

parts_from_any : (word places : List ℕ) (q : ℕ) → stands_for_any word places q ≡ true → parted word q ≡ true
parts_from_any word places q h = (and_parts (parted word q) _ (sym (any_is word places q) ∙ h)).0

ascends_step : (f : ℕ → Bool) (word : List ℕ) → ((q : ℕ) → f q ≡ true → is_boundary word q ≡ true) → (least a : ℕ) (rest : List ℕ) (b : Bool) → f a ≡ b → least ≤ a → ascend_on word (a + 1) rest ≡ true → ascend_on word least rest ≡ true → ascend_on word least (cond b (a ∷ rest) rest) ≡ true
ascends_step f word at least a rest true e le later same =
    let order : nat_le least a ≡ true = grind (arith, nat_tests) in
    and_from (nat_le least a && is_boundary word a) (ascend_on word (a + 1) rest) (and_from (nat_le least a) (is_boundary word a) order (at a e)) later
ascends_step f word at least a rest false e le later same = same

ascends : (f : ℕ → Bool) (word : List ℕ) → ((q : ℕ) → f q ≡ true → is_boundary word q ≡ true) → (least a n : ℕ) → least ≤ a → ascend_on word least (filter f (range_with_len a n)) ≡ true
ascends f word at least a zero le = refl
ascends f word at least a (suc n) le =
    ascends_step f word at least a (filter f (range_with_len (a + 1) n)) (f a) refl le (ascends f word at (a + 1) (a + 1) n (omega arith)) (ascends f word at least (a + 1) n (omega arith))

pub ascend : CarriedAscend
unfolding carried parted
ascend word places =
    ascends (stands_for_any word places) word (λ q h. (and_parts (is_boundary word q) _ (parts_from_any word places q h)).0) 0 0 (length word + 1) (omega arith)

has_step : (f : ℕ → Bool) (x q : ℕ) (rest : List ℕ) (b : Bool) → f x ≡ b → (has rest q ≡ true → f q ≡ true) → has (cond b (x ∷ rest) rest) q ≡ true → f q ≡ true
has_step f x q rest true e on h =
    elim (cases_Bool (nat_eq x q)) [
      | inl same ↦ subst (λ k. f k ≡ true) (eqb-true x q same) e
      | inr other ↦ on (sym (ap (λ t. t || has rest q) other) ∙ h)
    ]
has_step f x q rest false e on h = on h

has_filter : (f : ℕ → Bool) (xs : List ℕ) (q : ℕ) → has (filter f xs) q ≡ true → f q ≡ true
has_filter f [] q h = absurd (cc h)
has_filter f (x ∷ xs) q h = has_step f x q (filter f xs) (f x) refl (has_filter f xs q) h

filter_has_step : (f : ℕ → Bool) (a q : ℕ) (rest : List ℕ) (b : Bool) → f a ≡ b → f q ≡ true → (a ≡ q) ⊎ (has rest q ≡ true) → has (cond b (a ∷ rest) rest) q ≡ true
filter_has_step f a q rest true e h (inl same) = let test : nat_eq a q ≡ true = grind (arith, nat_tests) in or_left (nat_eq a q) (has rest q) test
filter_has_step f a q rest true e h (inr later) = or_right (nat_eq a q) (has rest q) later
filter_has_step f a q rest false e h (inl same) = let clash = sym e ∙ ap f same ∙ h in cc
filter_has_step f a q rest false e h (inr later) = later

filter_has : (f : ℕ → Bool) (a n q : ℕ) → f q ≡ true → a ≤ q → q < a + n → has (filter f (range_with_len a n)) q ≡ true
filter_has f a zero q h le lt = absurd (omega (arith, le, lt))
filter_has f a (suc n) q h le lt =
    filter_has_step f a q (filter f (range_with_len (a + 1) n)) (f a) refl h
    (elim (cases_lt a q) [ inl above ↦ inr (filter_has f (a + 1) n q h (omega arith) (omega arith)) | inr here ↦ inl (omega arith) ])

pub not_joined : NothingIsJoined
unfolding carried parted
not_joined word places q h =
    let parts = parts_from_any word places q (has_filter (stands_for_any word places) (range_with_len 0 (length word + 1)) q h) in
    (bytes_eq-Decides (composed (take q word) ++ composed (drop q word)) (composed word)).0 (and_parts (is_boundary word q) _ parts).1

-- ---- words

pub as_it_is : ComposedBreaksAsItIs
unfolding through_composed
as_it_is breaks word same = ap (λ b. cond b (breaks word) (carried word (breaks (composed word)))) same

through_other : (breaks : List ℕ → List ℕ) (word : List ℕ) → is_composed word ≡ false → through_composed breaks word ≡ carried word (breaks (composed word))
unfolding through_composed
through_other breaks word other = ap (λ b. cond b (breaks word) (carried word (breaks (composed word)))) other

has_is : (word places : List ℕ) (q : ℕ) → is_boundary word q ≡ true → has (carried word places) q ≡ stands_for_any word places q
unfolding carried
has_is word places q at =
    let within : q ≤ length word = leb-true q (length word) (and_parts (nat_le q (length word)) _ at).0 in
    same_tests _ _ (has_filter (stands_for_any word places) (range_with_len 0 (length word + 1)) q)
    (λ h. filter_has (stands_for_any word places) 0 (length word + 1) q h (omega arith) (omega arith))

pub alike : EquivalentBreakAlike
unfolding parted
alike breaks a b q r other_a other_b whole at_a at_b fronts backs =
    let ps = breaks (composed a) in
    let same : ps ≡ breaks (composed b) = ap breaks whole in
    let part : parted a q ≡ parted b r =
    ap₂ (λ x y. x && y) (at_a ∙ sym at_b) (ap₂ bytes_eq (ap₂ (λ x y. x ++ y) fronts backs) whole) in
    ap (λ l. has l q) (through_other breaks a other_a) ∙ has_is a ps q at_a ∙ any_is a ps q
    ∙ ap₂ (λ x y. x && list_any (λ k. nat_eq k (length y)) ps) part fronts ∙ sym (any_is b ps r) ∙ sym (has_is b ps r at_b)
    ∙ ap (λ l. has (carried b l) r) same ∙ sym (ap (λ l. has l r) (through_other breaks b other_b))
