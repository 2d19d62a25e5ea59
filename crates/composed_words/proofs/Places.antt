-- Which places of a word stand for places of its NFC.
use Rattle.std.proofs.Common.{◌≡◌, ℕ, ◌<◌, ◌≤◌, ◌&&◌, ◌||◌, Bool, true, false, List, [], ◌∷◌, ◌++◌, length, take, drop, nat_eq, nat_le, nat_lt, refl, sym, ap, ap₂, subst, ◌∙◌, arith, inl, inr, length-append}
use Rattle.std.specs.List.{list_any}
use Rattle.std.specs.Str.{IsCharBoundary, bytes_eq}
use Rattle.std.proofs.Math.Seq.{take-append_seam, drop-append_seam}
use Rattle.std.proofs.lemmas.Bool.{and_parts, and_from, cases_Bool, eqb-true, leb-true, or_right}
use Rattle.std.proofs.lemmas.Bool.Decides.{nat_tests}
use Rattle.std.proofs.lemmas.List.{take-append-drop, length-take-le}
use Rattle.std.proofs.lemmas.Slice.Eq.{bytes_eq-Decides}
use Rattle.hyphenation_breaks.specs.Break.{is_boundary}
use Rattle.hyphenation_breaks.specs.Laws.{BoundaryIsOfChars}
use Rattle.composed_words.specs.Composed.{composed, stands_for, stands_for_any}
use Rattle.composed_words.specs.Private.Segments.{ends_at_any, has_between}

-- ---- tests

pub same_tests : (a b : Bool) → (a ≡ true → b ≡ true) → (b ≡ true → a ≡ true) → a ≡ b
same_tests true b f g = sym (f refl)
same_tests false true f g = g refl
same_tests false false f g = refl

any_same : (f g : ℕ → Bool) (xs : List ℕ) → ((x : ℕ) → f x ≡ g x) → list_any f xs ≡ list_any g xs
any_same f g [] same = refl
any_same f g (x ∷ xs) same = ap₂ (λ a b. a || b) (same x) (any_same f g xs same)

any_where : (b : Bool) (f : ℕ → Bool) (xs : List ℕ) → list_any (λ x. b && f x) xs ≡ (b && list_any f xs)
any_where true f xs = refl
any_where false f [] = refl
any_where false f (x ∷ xs) = any_where false f xs

pub any_between : (places : List ℕ) (p low high : ℕ) → low < p → p < high → list_any (λ y. nat_eq y p) places ≡ true → has_between places low high ≡ true
any_between [] p low high above below h = h
any_between (x ∷ xs) p low high above below h =
    elim (cases_Bool (nat_eq x p)) [
      | inl here ↦
          let same = eqb-true x p here in
          let within : (nat_lt low x && nat_lt x high) ≡ true = grind (arith, nat_tests) in
          ap (λ b. b || has_between xs low high) within
      | inr other ↦
          let later = any_between xs p low high above below (sym (ap (λ b. b || list_any (λ y. nat_eq y p) xs) other) ∙ h) in
          or_right _ _ later
    ]

-- ---- one place

-- The NFC of a word is that of its parts before a place and from there on.
unfoldable pub parted : List ℕ → ℕ → Bool
parted word q = is_boundary word q && bytes_eq (composed (take q word) ++ composed (drop q word)) (composed word)

pub stands_parts : (word : List ℕ) (q p : ℕ) → stands_for word q p ≡ true → (parted word q ≡ true) × (p ≡ length (composed (take q word)))
unfolding stands_for parted
stands_parts word q p h =
    let n = composed word in
    let one = and_parts (is_boundary word q && nat_le p (length n) && bytes_eq (composed (take q word)) (take p n)) _ h in
    let two = and_parts (is_boundary word q && nat_le p (length n)) _ one.0 in
    let three = and_parts (is_boundary word q) _ two.0 in
    let front = (bytes_eq-Decides _ _).0 two.1 in
    let back = (bytes_eq-Decides _ _).0 one.1 in
    let within = leb-true p (length n) three.1 in (
      and_from _ _ three.0 ((bytes_eq-Decides _ _).1 (ap₂ (λ x y. x ++ y) front back ∙ take-append-drop p n)),
      sym (ap length front ∙ length-take-le p n within),
    )

pub stands_from : (word : List ℕ) (q : ℕ) → parted word q ≡ true → stands_for word q (length (composed (take q word))) ≡ true
unfolding stands_for parted
stands_from word q h =
    let n = composed word in
    let f = composed (take q word) in
    let b = composed (drop q word) in
    let parts = and_parts (is_boundary word q) (bytes_eq (f ++ b) n) h in
    let whole : f ++ b ≡ n = (bytes_eq-Decides (f ++ b) n).0 parts.1 in
    let within : length f ≤ length n = omega (arith, ap length whole, length-append f b) in
    let within_test : nat_le (length f) (length n) ≡ true = grind (arith, nat_tests) in
    let front : f ≡ take (length f) n = sym (take-append_seam f b) ∙ ap (take (length f)) whole in
    let back : b ≡ drop (length f) n = sym (drop-append_seam f b) ∙ ap (drop (length f)) whole in
    and_from _ _ (and_from _ _ (and_from _ _ parts.0 within_test) ((bytes_eq-Decides f _).1 front)) ((bytes_eq-Decides b _).1 back)

-- A place stands for one of some places where it parts the word, and the length of the NFC before it is one of them.
pub any_is : (word places : List ℕ) (q : ℕ) → stands_for_any word places q ≡ (parted word q && list_any (λ y. nat_eq y (length (composed (take q word)))) places)
unfolding stands_for_any
any_is word places q =
    let f = length (composed (take q word)) in
    any_same (stands_for word q) (λ p. parted word q && nat_eq p f) places (λ p.
    same_tests _ _
    (λ h. let parts = stands_parts word q p h in and_from _ _ parts.0 (let e = parts.1 in grind (arith, nat_tests)))
    (λ h. let parts = and_parts (parted word q) (nat_eq p f) h in
    subst (λ k. stands_for word q k ≡ true) (sym (eqb-true p f parts.1)) (stands_from word q parts.0)))
    ∙ any_where (parted word q) (λ y. nat_eq y f) places

-- A place that is no character boundary stands for none.
pub none_off : (law : BoundaryIsOfChars) (word places : List ℕ) (q : ℕ) → ¬ (IsCharBoundary word q) → false ≡ stands_for_any word places q
unfolding parted
none_off law word places q off =
    sym (any_is word places q
    ∙ elim (cases_Bool (is_boundary word q)) [
      | inr not ↦ ap (λ b. b && bytes_eq (composed (take q word) ++ composed (drop q word)) (composed word) && list_any (λ y. nat_eq y (length (composed (take q word)))) places) not
      | inl boundary ↦ absurd (off ((law word q).0 boundary))
    ])

pub answer_at : (law : BoundaryIsOfChars) (word places front back nfc : List ℕ) (q : ℕ) → IsCharBoundary word q → front ≡ take q word → back ≡ drop q word → nfc ≡ composed word → ends_at_any front back nfc places ≡ stands_for_any word places q
unfolding parted ends_at_any
answer_at law word places front back nfc q boundary front_is back_is nfc_is =
    let at : is_boundary word q ≡ true = (law word q).1 boundary in
    let same : ends_at_any front back nfc places ≡ ends_at_any (take q word) (drop q word) (composed word) places =
    ap (λ x. ends_at_any x back nfc places) front_is ∙ ap (λ x. ends_at_any (take q word) x nfc places) back_is
    ∙ ap (λ x. ends_at_any (take q word) (drop q word) x places) nfc_is in
    same
    ∙ sym (any_is word places q
    ∙ ap (λ b. b && bytes_eq (composed (take q word) ++ composed (drop q word)) (composed word) && list_any (λ y. nat_eq y (length (composed (take q word)))) places) at)

-- The answer of a call that composes the parts of a word.
pub ends_told : (front back nfc places parts : List ℕ) (test : Bool) → parts ≡ composed front ++ composed back → bytes_eq parts nfc ≡ true → test ≡ list_any (λ y. nat_eq y (length (composed front))) places → test ≡ ends_at_any front back nfc places
unfolding ends_at_any
ends_told front back nfc places parts test parts_are same told =
    told ∙ sym (ap (λ b. b && list_any (λ y. nat_eq y (length (composed front))) places) (sym (ap (λ x. bytes_eq x nfc) parts_are) ∙ same))

pub ends_not : (front back nfc places parts : List ℕ) → parts ≡ composed front ++ composed back → bytes_eq parts nfc ≡ false → false ≡ ends_at_any front back nfc places
unfolding ends_at_any
ends_not front back nfc places parts parts_are other =
    sym (ap (λ b. b && list_any (λ y. nat_eq y (length (composed front))) places) (sym (ap (λ x. bytes_eq x nfc) parts_are) ∙ other))
