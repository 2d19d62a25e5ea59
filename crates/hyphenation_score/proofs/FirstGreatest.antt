-- The first entry of the greatest value, and the greater of two entries.
use Rattle.std.proofs.Common.{◌≡◌, ℕ, ◌<◌, ◌≤◌, max, true, false, cond, eqb, List, [], ◌∷◌, ◌++◌, map, Option, Some, None, refl, sym, ap, ◌∙◌, arith, inl, inr, true≢false}
use Rattle.std.specs.Option.{option_or}
use Rattle.std.specs.List.{find}
use Rattle.std.proofs.lemmas.Bool.{cases_lt, cases_eq, lt-ltb, le-ltb, eqb-true, eq-eqb}
use Rattle.std.proofs.lemmas.List.Folds.{find-append}
use Rattle.hyphenation_breaks.specs.declared.entry.Entry.{Entry}
use Rattle.hyphenation_score.specs.Scoring.{greatest_value, first_greatest, value_of}
use Rattle.hyphenation_score.specs.Private.Scoring.{greater}
use Rattle.hyphenation_score.proofs.GreatestValues.{greatest_from, greatest_value-append}

cons_value : {C : Type 0} (e : Entry C) (es : List (Entry C)) → greatest_value (e ∷ es) ≡ max e.value (greatest_value es)
cons_value e es = omega (arith, greatest_from (max 0 e.value) (map (λ x. x.value) es))

-- no entry has a value above the greatest, so none is found there
not_found : {C : Type 0} (es : List (Entry C)) (v : ℕ) → greatest_value es < v → find (λ e. eqb e.value v) es ≡ None
not_found [] v lt = refl
not_found {C} (e ∷ es) v lt =
    let c = cons_value e es in
    elim (eqb e.value v) as (λ b. eqb e.value v ≡ b → cond {A = Option (Entry C)} b (Some e) (find (λ e. eqb e.value v) es) ≡ None) [
      | true ↦ λ is. absurd (omega (arith, eqb-true e.value v is))
      | false ↦ λ is. not_found es v (omega arith)
    ] refl

rest_greatest : (a b v : ℕ) → v ≡ max a b → eqb a v ≡ false → v ≡ b
rest_greatest a b v is other = elim (cases_eq a v) [
  | inl same ↦ absurd (true≢false (sym (eq-eqb a v same) ∙ other))
  | inr apart ↦ omega arith
]

-- the greatest value is found, unless it is 0
is_found : {C : Type 0} (es : List (Entry C)) (v : ℕ) → v ≡ greatest_value es → 0 < v → (e : Entry C) × (find (λ e. eqb e.value v) es ≡ Some e)
is_found [] v is pos = absurd (omega arith)
is_found {C} (e ∷ es) v is pos =
    let c = cons_value e es in
    elim (eqb e.value v) as (λ b. eqb e.value v ≡ b → (x : Entry C) × (cond {A = Option (Entry C)} b (Some e) (find (λ e. eqb e.value v) es) ≡ Some x)) [
      | true ↦ λ same. (e, refl)
      | false ↦ λ other. is_found es v (rest_greatest e.value (greatest_value es) v (is ∙ c) other) pos
    ] refl

abbrev won : {C : Type 0} → ℕ → List (Entry C) → Option (Entry C)
won v es = cond (eqb v 0) None (find (λ e. eqb e.value v) es)

first_stays : {C : Type 0} (v : ℕ) (xs ys : List (Entry C)) → v ≡ greatest_value xs → won v (xs ++ ys) ≡ won v xs
first_stays {C} v xs ys is = elim (cases_eq v 0) [
  | inl zero_is ↦ let t = eq-eqb v 0 zero_is in ap (λ b. cond {A = Option (Entry C)} b None (find (λ e. eqb e.value v) (xs ++ ys))) t ∙ sym (ap (λ b. cond {A = Option (Entry C)} b None (find (λ e. eqb e.value v) xs)) t)
  | inr pos ↦
      let f = is_found xs v is (omega arith) in
      ap (cond (eqb v 0) None) (find-append (λ e. eqb e.value v) xs ys ∙ ap (λ (o : Option (Entry C)). option_or o (find (λ e. eqb e.value v) ys)) f.1 ∙ sym f.1)
]

-- the entry found has the value sought
found_value : {C : Type 0} (es : List (Entry C)) (v : ℕ) (e : Entry C) → find (λ x. eqb x.value v) es ≡ Some e → e.value ≡ v
found_value [] v e is = absurd cc
found_value {C} (x ∷ es) v e is =
    elim (eqb x.value v) as (λ b. eqb x.value v ≡ b → cond {A = Option (Entry C)} b (Some x) (find (λ y. eqb y.value v) es) ≡ Some e → e.value ≡ v) [
      | true ↦ λ same here. let one : x ≡ e = cc in ap (λ y. y.value) (sym one) ∙ eqb-true x.value v same
      | false ↦ λ other rest. found_value es v e rest
    ] refl is

-- there is no first greatest entry if the greatest value is 0
pub first_none : {C : Type 0} (es : List (Entry C)) → greatest_value es ≡ 0 → first_greatest es ≡ None
first_none {C} es nil = ap (λ b. cond {A = Option (Entry C)} b None (find (λ e. eqb e.value (greatest_value es)) es)) (eq-eqb (greatest_value es) 0 nil)

-- there is one if the greatest value is above 0
pub first_some : {C : Type 0} (es : List (Entry C)) → 0 < greatest_value es → (e : Entry C) × (first_greatest es ≡ Some e) × (find (λ x. eqb x.value (greatest_value es)) es ≡ Some e) × (e.value ≡ greatest_value es)
first_some {C} es pos =
    let f = is_found es (greatest_value es) refl pos in
    let v = found_value es (greatest_value es) f.0 f.1 in
    elim (eqb (greatest_value es) 0) as (λ b. eqb (greatest_value es) 0 ≡ b → (e : Entry C) × (cond {A = Option (Entry C)} b None (find (λ x. eqb x.value (greatest_value es)) es) ≡ Some e) × (find (λ x. eqb x.value (greatest_value es)) es ≡ Some e) × (e.value ≡ greatest_value es)) [
      | true ↦ λ nil. absurd (omega (arith, eqb-true (greatest_value es) 0 nil))
      | false ↦ λ some. (f.0, f.1, f.1, v)
    ] refl

-- the value of the first is the greatest
pub value_of-first : {C : Type 0} (es : List (Entry C)) → value_of (first_greatest es) ≡ greatest_value es
value_of-first es = elim (cases_eq (greatest_value es) 0) [
  | inl nil ↦ ap value_of (first_none es nil) ∙ sym nil
  | inr some ↦ let f = first_some es (omega arith) in ap value_of f.1 ∙ f.3
]

pub greater_second : {C : Type 0} (a b : Option (Entry C)) → value_of a < value_of b → greater a b ≡ b
greater_second a b lt = ap (λ t. cond t b a) (lt-ltb (value_of a) (value_of b) lt)

pub greater_first : {C : Type 0} (a b : Option (Entry C)) → value_of b ≤ value_of a → greater a b ≡ a
greater_first a b le = ap (λ t. cond t b a) (le-ltb (value_of a) (value_of b) le)

-- later entries win only by a greater value
pub first-append : {C : Type 0} (xs ys : List (Entry C)) → first_greatest (xs ++ ys) ≡ greater (first_greatest xs) (first_greatest ys)
first-append {C} xs ys =
    let a = greatest_value xs in
    let b = greatest_value ys in
    let all : greatest_value (xs ++ ys) ≡ max a b = greatest_value-append xs ys in
    elim (cases_lt a b) [
      | inl lt ↦
          let most : greatest_value (xs ++ ys) ≡ b = omega (arith, all) in
          ap (λ (v : ℕ). won v (xs ++ ys)) most
          ∙ ap (cond (eqb b 0) None) (find-append (λ e. eqb e.value b) xs ys ∙ ap (λ (o : Option (Entry C)). option_or o (find (λ e. eqb e.value b) ys)) (not_found xs b lt))
          ∙ sym (greater_second (first_greatest xs) (first_greatest ys) (omega (arith, value_of-first xs, value_of-first ys)))
      | inr le ↦
          let most : greatest_value (xs ++ ys) ≡ a = omega (arith, all) in
          ap (λ (v : ℕ). won v (xs ++ ys)) most ∙ first_stays a xs ys refl ∙ sym (greater_first (first_greatest xs) (first_greatest ys) (omega (arith, value_of-first xs, value_of-first ys)))
    ]

-- the first of the greatest gives the greatest value, which is above 0
pub first_value : {C : Type 0} (es : List (Entry C)) (e : Entry C) → first_greatest es ≡ Some e → (greatest_value es ≡ e.value) × (0 < e.value)
first_value {C} es e is =
    let v : greatest_value es ≡ e.value = sym (value_of-first es) ∙ ap value_of is in
    elim (cases_eq (greatest_value es) 0) [
      | inl nil ↦ let none : None ≡ Some e = sym (first_none es nil) ∙ is in absurd cc
      | inr some ↦ (v, omega arith)
    ]
