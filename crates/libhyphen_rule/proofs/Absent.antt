-- Texts that stand nowhere, since their first byte does not occur.
use Rattle.std.proofs.Common.{◌≡◌, ◌∙◌, ℕ, zero, suc, ◌≤◌, ◌+◌, ◌-◌, Bool, false, List, [], ◌∷◌, length, drop, take, refl, sym, ap, arith}
use Rattle.std.specs.Prelude.{◌==◌, ◌||◌, ◌&&◌, nat_eq, slice_index, if◌then◌else◌}
use Rattle.std.specs.Cmp.Lexicographic.{pointwise}
use Rattle.std.specs.List.{list_any}
use Rattle.std.proofs.lemmas.Grind.{common_steps}
use Rattle.std.proofs.lemmas.List.FromFn.{fill_by_all}
use Rattle.std.proofs.lemmas.Bool.{or_parts, and_right}
use Rattle.libhyphen_rule.specs.Words.{digits_beside, is_beside, stands_at}

any_dropped : (p : ℕ → Bool) (xs : List ℕ) (n : ℕ) → list_any p xs ≡ false → list_any p (drop n xs) ≡ false
any_dropped p xs zero h = h
any_dropped p [] (suc n) h = refl
any_dropped p (x ∷ xs) (suc n) h = any_dropped p xs n (or_parts (p x) (list_any p xs) h).1

other : (first x : ℕ) → (x == first) ≡ false → nat_eq first x ≡ false
other first x h = grind (arith, common_steps)

absent : (first : ℕ) (rest xs : List ℕ) → list_any (λ y. y == first) xs ≡ false
    → pointwise nat_eq (first ∷ rest) (take (length (first ∷ rest)) xs) ≡ false
absent first rest [] h = refl
absent first rest (x ∷ xs) h =
    ap (λ b. b && pointwise nat_eq rest (take (length rest) xs)) (other first x (or_parts (x == first) _ h).0)

-- A text whose first byte does not occur stands nowhere.
pub stands_nowhere : (text : List ℕ) (first : ℕ) (rest : List ℕ) (at : ℕ) → list_any (λ y. y == first) text ≡ false
    → stands_at text at (first ∷ rest) ≡ false
stands_nowhere text first rest at h = absent first rest (drop at text) (any_dropped (λ y. y == first) text at h)

both : (a l b : Bool) → a ≡ false → b ≡ false → (a || (l && b)) ≡ false
both a l b ea eb = (λ i. ea i || (l && eb i)) ∙ and_right l false refl

-- Such a text neither begins nor ends at a place.
pub not_beside : (text part : List ℕ) (byte : ℕ) (occurs : Bool) → 1 ≤ length part
    → occurs ≡ list_any (λ y. y == slice_index part 0) text → occurs ≡ false → is_beside text byte part ≡ false
not_beside text [] byte occurs long is none = absurd (omega arith)
not_beside text (first ∷ rest) byte occurs long is none =
    let no : (at : ℕ) → stands_at text at (first ∷ rest) ≡ false = λ at. stands_nowhere text first rest at (sym is ∙ none) in
    both _ _ _ (no (byte + 1)) (no (byte + 1 - length (first ∷ rest)))

-- The digits stay where no text is beside a place.
pub digits_stay : (parts : List (List ℕ)) (instead : ℕ) (text digits : List ℕ)
    → ((byte : ℕ) → list_any (is_beside text byte) parts ≡ false) → digits ≡ digits_beside parts instead text digits
digits_stay parts instead text digits none =
    fill_by_all (λ byte. if list_any (is_beside text byte) parts then instead else slice_index digits byte)
    digits (length digits) 0 refl (λ k l. ap (λ b. if b then instead else slice_index digits k) (sym (none k)))
