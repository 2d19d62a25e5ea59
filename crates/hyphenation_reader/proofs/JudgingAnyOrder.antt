-- A text stays accepted whatever the order of its lines after the third.
use Rattle.std.proofs.Common.{◌≡◌, ◌≢◌, ℕ, zero, suc, ◌+◌, ◌<◌, ◌≤◌, Bool, true, false, cond, ◌&&◌, ◌||◌, eqb, List, [], ◌∷◌, length, get_or, take, drop, Option, Some, None, refl, sym, ap, subst, ◌∙◌, arith, add-one, inl, inr, IsPermutation}
use Rattle.std.specs.Prelude.{◌⊎◌}
use Rattle.std.specs.Option.{option_map, option_map_or}
use Rattle.std.specs.List.{list_any, swap}
use Rattle.std.specs.Cmp.Lexicographic.{nat_list_eq_equiv}
use Rattle.std.proofs.lemmas.Bool.Decides.{nat_tests}
use Rattle.std.proofs.lemmas.List.{take_all, drop_all}
use Rattle.std.proofs.lemmas.List.Edits.{Swapped, swapped_from_swap, length-swap}
use Rattle.std.proofs.lemmas.List.Sorted.{IsPermutation-keeps}
use Rattle.std.proofs.lemmas.Bool.{or_from, or_parts}
use Rattle.hyphenation_reader.proofs.JudgingLine.{alike}
use native.Mathlib.Decide.{dec_lt, ℕ_discrete}
use Rattle.hyphenation_grammar.specs.declared.form.Form.{Form}
use Rattle.hyphenation_grammar.specs.declared.form.Version.{Version}
use Rattle.hyphenation_grammar.specs.Lines.{is_same}
use Rattle.hyphenation_grammar.specs.Items.{is_pattern_line, is_exception_line, key_of_line, word_of_line, key_spelt, word_spelt}
use Rattle.hyphenation_grammar.specs.Judging.{fault_after, own_cause, missing_head, repetition, is_repeated}
use Rattle.hyphenation_grammar.specs.declared.Cause.{Cause}
use Rattle.hyphenation_grammar.specs.declared.Cause.TheVariants.{RepeatedPattern, RepeatedException}
use Rattle.hyphenation_reader.proofs.ItemsOfLines.{neither}
use Rattle.hyphenation_reader.proofs.ReadingOrder.{no_fault}
use Rattle.hyphenation_reader.proofs.ReadingLines.{from_line, at_line}

-- two lines that spell the same key, or the same word
abbrev spells_same : (List ℕ → Option (List ℕ)) → List ℕ → List ℕ → Bool
spells_same spells text other = option_map_or (λ t. is_same t text) (spells other) false

abbrev clash : Version → List ℕ → List ℕ → Bool
clash version e l = (is_pattern_line l && spells_same (key_spelt version) (key_of_line version l) e) || (is_exception_line l && spells_same word_spelt (word_of_line l) e)

half : (a b : Bool) (k m : List ℕ) → (b && option_map_or (λ t. is_same t m) (cond {A = Option (List ℕ)} a (Some k) None) false) ≡ (a && option_map_or (λ t. is_same t k) (cond {A = Option (List ℕ)} b (Some m) None) false)
half true true k m = nat_list_eq_equiv.symm k m
half true false k m = refl
half false true k m = refl
half false false k m = refl

clash-sym : (version : Version) (e l : List ℕ) → clash version e l ≡ clash version l e
clash-sym version e l = λ i. half (is_pattern_line e) (is_pattern_line l) (key_of_line version e) (key_of_line version l) i || half (is_exception_line e) (is_exception_line l) (word_of_line e) (word_of_line l) i

-- the tests of repetition, by that
gather : (p q : Bool) (f g : List ℕ → Bool) (ls : List (List ℕ)) → ((p && list_any f ls) || (q && list_any g ls)) ≡ list_any (λ e. (p && f e) || (q && g e)) ls
gather true true f g [] = refl
gather true false f g [] = refl
gather false true f g [] = refl
gather false false f g [] = refl
gather p q f g (l ∷ ls) = spread p q (f l) (g l) (list_any f ls) (list_any g ls) ∙ ap (λ (t : Bool). ((p && f l) || (q && g l)) || t) (gather p q f g ls)
  where
    spread : (p q a b x y : Bool) → ((p && (a || x)) || (q && (b || y))) ≡ (((p && a) || (q && b)) || ((p && x) || (q && y)))
    spread true true true b x y = refl
    spread true true false true true y = refl
    spread true true false true false y = refl
    spread true true false false x y = refl
    spread true false true b x y = refl
    spread true false false b x y = refl
    spread false true a b x y = refl
    spread false false a b x y = refl

none_again : (a b : Bool) → (a || b) ≡ false → None ≡ cond {A = Option Cause} a (Some RepeatedPattern) (cond b (Some RepeatedException) None)
none_again true b e = absurd cc
none_again false true e = absurd cc
none_again false false e = refl

no_clash : (version : Version) (earlier : List (List ℕ)) (l : List ℕ) → None ≡ repetition version earlier l → list_any (λ e. clash version e l) earlier ≡ false
no_clash version earlier l none =
    let off = neither (is_pattern_line l && is_repeated (key_spelt version) earlier (key_of_line version l)) (is_exception_line l && is_repeated word_spelt earlier (word_of_line l)) none in
    sym (gather (is_pattern_line l) (is_exception_line l) (spells_same (key_spelt version) (key_of_line version l)) (spells_same word_spelt (word_of_line l)) earlier)
    ∙ or_from (is_pattern_line l && is_repeated (key_spelt version) earlier (key_of_line version l)) (is_exception_line l && is_repeated word_spelt earlier (word_of_line l)) off.0 off.1

no_repetition : (version : Version) (earlier : List (List ℕ)) (l : List ℕ) → list_any (λ e. clash version e l) earlier ≡ false → None ≡ repetition version earlier l
no_repetition version earlier l none =
    none_again (is_pattern_line l && is_repeated (key_spelt version) earlier (key_of_line version l)) (is_exception_line l && is_repeated word_spelt earlier (word_of_line l))
    (gather (is_pattern_line l) (is_exception_line l) (spells_same (key_spelt version) (key_of_line version l)) (spells_same word_spelt (word_of_line l)) earlier ∙ none)

-- none among the first i, place by place
each_of : (p : List ℕ → Bool) (xs : List (List ℕ)) (i : ℕ) → list_any p (take i xs) ≡ false → (k : ℕ) → k < i → k < length xs → p (get_or xs k []) ≡ false
each_of p [] i none k lt within = absurd (omega arith)
each_of p (x ∷ xs) zero none k lt within = absurd (omega arith)
each_of p (x ∷ xs) (suc i) none zero lt within = (or_parts (p x) (list_any p (take i xs)) none).0
each_of p (x ∷ xs) (suc i) none (suc k) lt within = each_of p xs i (or_parts (p x) (list_any p (take i xs)) none).1 k (omega arith) (omega arith)

none_of_first : (p : List ℕ → Bool) (xs : List (List ℕ)) (i : ℕ) → ((k : ℕ) → k < i → k < length xs → p (get_or xs k []) ≡ false) → list_any p (take i xs) ≡ false
none_of_first p [] zero each = refl
none_of_first p [] (suc i) each = refl
none_of_first p (x ∷ xs) zero each = refl
none_of_first p (x ∷ xs) (suc i) each = or_from (p x) (list_any p (take i xs)) (each zero (omega arith) (omega arith)) (none_of_first p xs i (λ k lt within. each (suc k) (omega arith) (omega arith)))

-- a text of at least three lines is accepted where each line passes its own tests and no two spell the same
pub record Stands (form : Form) (all : List (List ℕ)) : Type 0 where
  pub own : (i : ℕ) → i < length all → own_cause form (i + 1) (get_or all i []) ≡ None
  pub apart : (i j : ℕ) → i < length all → j < length all → i ≢ j → clash form.version (get_or all j []) (get_or all i []) ≡ false

module _ (form : Form) (all : List (List ℕ)) where
  abbrev rest_at : ℕ → Option (ℕ × Cause)
  rest_at i = fault_after form (take i all) (drop i all)

  at : (i : ℕ) → i < length all → rest_at i ≡ from_line (i + 1) (own_cause form (i + 1) (get_or all i [])) (repetition form.version (take i all) (get_or all i [])) (rest_at (i + 1))
  at i lt = at_line form all i [] lt

  no_rest : fault_after form [] all ≡ None → (i : ℕ) → i ≤ length all → rest_at i ≡ None
  no_rest accepted zero le = accepted
  no_rest accepted (suc i) le =
      let before = no_rest accepted i (omega arith) in
      let lt : i < length all = omega arith in
      subst (λ (k : ℕ). rest_at k ≡ None) (add-one i) (no_fault (own_cause form (i + 1) (get_or all i [])) (repetition form.version (take i all) (get_or all i [])) (i + 1) (rest_at (i + 1)) (sym (at i lt) ∙ before)).2

  parts : fault_after form [] all ≡ None → (i : ℕ) → i < length all → (own_cause form (i + 1) (get_or all i []) ≡ None) × (None ≡ repetition form.version (take i all) (get_or all i []))
  parts accepted i lt =
      let n = no_fault (own_cause form (i + 1) (get_or all i [])) (repetition form.version (take i all) (get_or all i [])) (i + 1) (rest_at (i + 1)) (sym (at i lt) ∙ no_rest accepted i (omega arith)) in
      (n.0, n.1)

  one_before : fault_after form [] all ≡ None → (i j : ℕ) → i < length all → j < i → clash form.version (get_or all j []) (get_or all i []) ≡ false
  one_before accepted i j lt below = each_of (λ e. clash form.version e (get_or all i [])) all i (no_clash form.version (take i all) (get_or all i []) (parts accepted i lt).1) j below (omega arith)

  pub stands-from : fault_after form [] all ≡ None → Stands form all
  stands-from accepted = record {
    own = λ i lt. (parts accepted i lt).0;
    apart = λ i j within inside differ. elim (dec_lt j i) [
      | yes below ↦ one_before accepted i j within below
      | no above ↦ clash-sym form.version (get_or all j []) (get_or all i []) ∙ one_before accepted j i inside (omega arith)
    ];
  }

  from_rest : Stands form all → 2 < length all → (n i : ℕ) → length all ≡ i + n → rest_at i ≡ None
  from_rest s long zero i len =
      ap (λ (ls : List (List ℕ)). fault_after form ls (drop i all)) (take_all i all (omega arith)) ∙ ap (fault_after form all) (drop_all i all (omega arith)) ∙ enough (length all) long
    where
      enough : (n : ℕ) → 2 < n → option_map {U = ℕ × Cause} (λ cause. (n + 1, cause)) (missing_head n) ≡ None
      enough n h = rw (apart_from 0 n (omega arith), apart_from 1 n (omega arith), apart_from 2 n (omega arith)) refl
        where
          apart_from : (k n : ℕ) → k < n → eqb n k ≡ false
          apart_from k n h = grind (arith, nat_tests)
  from_rest s long (suc n) i len =
      let lt : i < length all = omega arith in
      let again : None ≡ repetition form.version (take i all) (get_or all i []) = no_repetition form.version (take i all) (get_or all i []) (none_of_first (λ e. clash form.version e (get_or all i [])) all i (λ k below within. s.apart i k lt within (λ is_same. absurd (omega arith)))) in
      at i lt
      ∙ ap (λ (o : Option Cause). from_line (i + 1) o (repetition form.version (take i all) (get_or all i [])) (rest_at (i + 1))) (s.own i lt)
      ∙ ap (λ (o : Option Cause). from_line (i + 1) None o (rest_at (i + 1))) (sym again)
      ∙ from_rest s long n (i + 1) (omega arith)

  pub stands-to : Stands form all → 2 < length all → fault_after form [] all ≡ None
  stands-to s long = from_rest s long (length all) 0 (omega arith)

-- where a swap of a and b took the line at m from
abbrev From : ℕ → ℕ → ℕ → ℕ → Type 0
From a b m k = ((m ≡ a) × (k ≡ b)) ⊎ (((m ≡ b) × (k ≡ a)) ⊎ ((m ≢ a) × (m ≢ b) × (k ≡ m)))

origin : {X : Type 0} (f g : ℕ → X) (a b m : ℕ) → Swapped f g a b → (m ≡ a) ⊎ (m ≢ a) → (m ≡ b) ⊎ (m ≢ b) → (k : ℕ) × From a b m k × (g m ≡ f k)
origin f g a b m s (inl e) y = (b, inl (e, refl), ap g e ∙ s.0)
origin f g a b m s (inr n) (inl e) = (a, inr (inl (e, refl)), ap g e ∙ s.1)
origin f g a b m s (inr n) (inr o) = (m, inr (inr (n, o, refl)), s.2 m n o)

equal_or_not : (m n : ℕ) → (m ≡ n) ⊎ (m ≢ n)
equal_or_not m n = elim (ℕ_discrete m n) [ yes e ↦ inl e | no e ↦ inr e ]

own_moved : (form : Form) (i k : ℕ) (line : List ℕ) → (k ≡ i) ⊎ ((3 ≤ i) × (3 ≤ k)) → own_cause form (i + 1) line ≡ own_cause form (k + 1) line
own_moved form i k line (inl is_same) = ap (λ (n : ℕ). own_cause form (n + 1) line) (sym is_same)
own_moved form i k line (inr late) = alike form (i + 1) line (omega (arith, late.0)) ∙ sym (alike form (k + 1) line (omega (arith, late.1)))

stays_or_late : (a b i k : ℕ) → 3 ≤ a → 3 ≤ b → From a b i k → (k ≡ i) ⊎ ((3 ≤ i) × (3 ≤ k))
stays_or_late a b i k la lb (inl h) = inr (omega (arith, h.0), omega (arith, h.1))
stays_or_late a b i k la lb (inr (inl h)) = inr (omega (arith, h.0), omega (arith, h.1))
stays_or_late a b i k la lb (inr (inr h)) = inl h.2

module _ (form : Form) (old new : List (List ℕ)) (a b : ℕ) (la : 3 ≤ a) (lb : 3 ≤ b) (ia : a < length old) (ib : b < length old) (len : length new ≡ length old)
    (s : Swapped (λ i. get_or old i []) (λ i. get_or new i []) a b) where
  abbrev came : (i : ℕ) → (k : ℕ) × From a b i k × (get_or new i [] ≡ get_or old k [])
  came i = origin (λ i. get_or old i []) (λ i. get_or new i []) a b i s (equal_or_not i a) (equal_or_not i b)

  inside : (i k : ℕ) → From a b i k → i < length new → k < length old
  inside i k (inl h) lt = omega (arith, h.1)
  inside i k (inr (inl h)) lt = omega (arith, h.1)
  inside i k (inr (inr h)) lt = omega (arith, h.2)

  differ : (i j k m : ℕ) → From a b i k → From a b j m → i ≢ j → k ≢ m
  differ i j k m x y n is_same = n (omega (arith, x, y, is_same))

  stands-swapped : Stands form old → Stands form new
  stands-swapped h = record {
    own = λ i lt.
        let k = came i in
        ap (own_cause form (i + 1)) k.2 ∙ own_moved form i k.0 (get_or old k.0 []) (stays_or_late a b i k.0 la lb k.1) ∙ h.own k.0 (inside i k.0 k.1 lt);
    apart = λ i j li lj n.
        let k = came i in
        let m = came j in
        (λ t. clash form.version (m.2 t) (k.2 t)) ∙ h.apart k.0 m.0 (inside i k.0 k.1 li) (inside j m.0 m.1 lj) (differ i j k.0 m.0 k.1 m.1 n);
  }

module _ (form : Form) (first second third : List ℕ) where
  abbrev headed : List (List ℕ) → List (List ℕ)
  headed ls = first ∷ second ∷ third ∷ ls

  headed-swapped : (ls : List (List ℕ)) (a b : ℕ) → a < length ls → b < length ls → Swapped (λ i. get_or (headed ls) i []) (λ i. get_or (headed (swap ls a b)) i []) (suc (suc (suc a))) (suc (suc (suc b)))
  headed-swapped ls a b ia ib = (s.0, s.1, others)
    where
      s : Swapped (λ i. get_or ls i []) (λ i. get_or (swap ls a b) i []) a b
      s = swapped_from_swap ls (swap ls a b) a b [] ia ib refl

      others : (m : ℕ) → (m ≡ suc (suc (suc a)) → ⊥) → (m ≡ suc (suc (suc b)) → ⊥) → get_or (headed (swap ls a b)) m [] ≡ get_or (headed ls) m []
      others zero x y = refl
      others (suc zero) x y = refl
      others (suc (suc zero)) x y = refl
      others (suc (suc (suc m))) x y = s.2 m (λ e. x (ap (λ (n : ℕ). suc (suc (suc n))) e)) (λ e. y (ap (λ (n : ℕ). suc (suc (suc n))) e))

  one_swap : (ls : List (List ℕ)) (a b : ℕ) → a < length ls → b < length ls → fault_after form [] (headed ls) ≡ None → fault_after form [] (headed (swap ls a b)) ≡ None
  one_swap ls a b ia ib accepted =
      let len = length-swap ls a b in
      stands-to form (headed (swap ls a b))
      (stands-swapped form (headed ls) (headed (swap ls a b)) (suc (suc (suc a))) (suc (suc (suc b))) (omega arith) (omega arith) (omega arith) (omega arith) (omega arith) (headed-swapped ls a b ia ib) (stands-from form (headed ls) accepted))
      (omega arith)

  pub accepted-anyhow : (ls ms : List (List ℕ)) → IsPermutation ls ms → fault_after form [] (headed ls) ≡ None → fault_after form [] (headed ms) ≡ None
  accepted-anyhow ls ms moved accepted = IsPermutation-keeps ls (λ l. fault_after form [] (headed l) ≡ None) accepted (λ l i j a b h. one_swap l i j a b h) ms moved
