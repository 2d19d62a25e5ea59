-- Digits at whose places texts begin or end, with the texts taken one after the other, and the bytes that occur.
use Rattle.std.proofs.Common.{◌≡◌, ◌≢◌, ◌∙◌, ◌<◌, ◌+◌, ℕ, Bool, true, false, if◌then◌else◌, List, [], ◌∷◌, ◌++◌, length, map, refl, sym, ap, arith, get_or, set, take}
use Rattle.std.specs.Prelude.{◌||◌, ◌==◌, slice_index}
use Rattle.std.specs.List.{list_any}
use Rattle.std.proofs.lemmas.List.FromFn.{fill_by_all, get_or-map-range_with_len, length-map-range_with_len}
use Rattle.std.proofs.lemmas.Bool.{eq-eqb, ne_eqb, or_right}
use Rattle.std.proofs.lemmas.Grind.{common_steps}
use Rattle.std.proofs.lemmas.List.Folds.{list_any-append, list_any_more}
use Rattle.libhyphen_rule.specs.Words.{digits_beside, is_beside}
use Rattle.libhyphen_rule.proofs.Absent.{digits_stay}

or_none : (b : Bool) → b ≡ (b || false)
or_none true = refl
or_none false = refl

-- Some text of a list of one is beside a place where this one is.
pub digits_beside_one : (part : List ℕ) (instead : ℕ) (text digits new : List ℕ) → length new ≡ length digits
    → ((k : ℕ) → k < length digits
    → slice_index new k ≡ (if is_beside text k part then instead else slice_index digits k))
    → new ≡ digits_beside (part ∷ []) instead text digits
digits_beside_one part instead text digits new same each =
    fill_by_all (λ byte. if list_any (is_beside text byte) (part ∷ []) then instead else slice_index digits byte)
    new (length digits) 0 same
    (λ k l. each k l ∙ ap (λ b. if b then instead else slice_index digits k) (or_none (is_beside text k part)))

twice : (a b : Bool) (x y : ℕ) → (if b then x else (if a then x else y)) ≡ (if a || b then x else y)
twice true true x y = refl
twice true false x y = refl
twice false true x y = refl
twice false false x y = refl

-- The digits beside one more text are those beside it among the digits beside the texts before it.
pub digits_beside_more : (parts : List (List ℕ)) (part : List ℕ) (instead : ℕ) (text digits : List ℕ)
    → digits_beside (part ∷ []) instead text (digits_beside parts instead text digits)
    ≡ digits_beside (parts ++ part ∷ []) instead text digits
digits_beside_more parts part instead text digits =
    let n = length digits in
    let before = λ (byte : ℕ). if list_any (is_beside text byte) parts then instead else slice_index digits byte in
    let so_far = digits_beside parts instead text digits in
    let here = λ (byte : ℕ).
    if list_any (is_beside text byte) (part ∷ []) then instead else slice_index so_far byte in
    let all = λ (byte : ℕ).
    if list_any (is_beside text byte) (parts ++ part ∷ []) then instead else slice_index digits byte in
    let long : length so_far ≡ n = length-map-range_with_len before 0 n in
    let each : (k : ℕ) → k < n → get_or (digits_beside (part ∷ []) instead text so_far) k 0 ≡ all k
    = λ k l.
    get_or-map-range_with_len here 0 (length so_far) k k 0 (omega (arith, l, long)) (omega arith)
    ∙ ap (λ (d : ℕ). if list_any (is_beside text k) (part ∷ []) then instead else d)
    (get_or-map-range_with_len before 0 n k k 0 l (omega arith))
    ∙ twice (list_any (is_beside text k) parts) (list_any (is_beside text k) (part ∷ [])) instead
    (slice_index digits k)
    ∙ ap (λ (b : Bool). if b then instead else slice_index digits k)
    (sym (list_any-append (is_beside text k) parts (part ∷ []))) in
    fill_by_all all (digits_beside (part ∷ []) instead text so_far) n 0
    (length-map-range_with_len here 0 (length so_far) ∙ long) each

-- Without texts the digits stay.
pub digits_beside_none : {X : Type 0} (f : X → List ℕ) (parts : List X) (instead : ℕ) (text digits : List ℕ)
    → length parts ≡ 0 → digits ≡ digits_beside (map f parts) instead text digits
digits_beside_none f [] instead text digits none = digits_stay [] instead text digits (λ byte. refl)
digits_beside_none f (part ∷ parts) instead text digits none = absurd (omega arith)

at_set : (xs : List Bool) (i k : ℕ) (w : Bool) → i < length xs → (k ≡ i → true ≡ w) → (k ≢ i → get_or xs k false ≡ w)
    → get_or (set xs i true) k false ≡ w
at_set xs i k w h same other = grind (arith, common_steps)

-- One more byte of a text is marked as one that occurs.
pub occurring_more : (occurs : List Bool) (text : List ℕ) (i : ℕ) → i < length text
    → get_or text i 0 < length occurs
    → (b : ℕ) → get_or occurs b false ≡ list_any (λ byte. byte == b) (take i text)
    → get_or (set occurs (get_or text i 0) true) b false ≡ list_any (λ byte. byte == b) (take (i + 1) text)
occurring_more occurs text i within fits b before =
    let byte = get_or text i 0 in
    let so_far = list_any (λ y. y == b) (take i text) in
    let more : list_any (λ y. y == b) (take (i + 1) text) ≡ (so_far || (byte == b))
    = list_any_more (λ y. y == b) text i 0 within in
    at_set occurs byte b _ fits
    (λ same. sym (more ∙ ap (λ (c : Bool). so_far || c) (eq-eqb byte b (sym same)) ∙ or_right so_far true refl))
    (λ other. before
    ∙ or_none so_far
    ∙ ap (λ (c : Bool). so_far || c) (sym (ne_eqb byte b (λ same. other (sym same))))
    ∙ sym more)
