-- Lines of ascending texts are accepted, and the lines of a finite map spell that map.
use Rattle.std.proofs.Common.{◌≡◌, ℕ, ◌+◌, ◌<◌, Bool, true, false, cond, ◌&&◌, ◌||◌, eqb, List, [], ◌∷◌, ◌++◌, length, map, Option, Some, None, refl, sym, ap, subst, ◌∙◌, append_assoc, arith, length-append, T}
use Rattle.std.specs.Option.{option_map, option_map_or, option_or}
use Rattle.std.specs.List.{filter_map, cons_option, list_all}
use Rattle.std.specs.Ordering.{nat_cmp, eq_by_cmp, is_eq, is_lt}
use Rattle.std.specs.declared.cmp.Ordering.{Ordering}
use Rattle.std.specs.declared.cmp.Ordering.TheVariants.{Less, Equal, Greater}
use Rattle.std.specs.Cmp.Lexicographic.{slice_cmp, nat_list_cmp_total, nat_list_eq_equiv, texts_ties}
use Rattle.std.specs.FinMap as finite
use Rattle.std.specs.FinMap.{find, is_sorted, entries_sorted, get-entries, get-from_entries, same_map, nat_cmp-IsAntisymmetric, slice_cmp-IsAntisymmetric}
use Rattle.std.proofs.lemmas.List.{append-nil}
use Rattle.std.proofs.lemmas.List.Folds.{list_any-append}
use Rattle.std.proofs.lemmas.List.Elements.{filter_map-append}
use Rattle.std.proofs.lemmas.Bool.Decides.{nat_tests}
use Rattle.hyphenation_breaks.specs.Dictionary.{TextMap}
use Rattle.hyphenation_grammar.specs.Judging.{own_cause, repetition, is_repeated, fault_after, missing_head}
use Rattle.hyphenation_grammar.specs.Lines.{is_same}
use Rattle.hyphenation_grammar.specs.Reading.{map_of_lines}
use Rattle.hyphenation_grammar.specs.declared.Cause.{Cause}
use Rattle.hyphenation_grammar.specs.declared.form.Form.{Form}
use Rattle.std.specs.Cmp.{first_so, second_so}
use Rattle.std.proofs.lemmas.Slice.Eq.{bytes_eq-Decides}

-- ---- The entries of a finite map.

pick : (a b c d : Bool) → T ((a && b) && (c && d)) → T a × T (b && d) × T (c && d)
pick true true true true h = (tt, tt, tt)
pick true true true false h = absurd h
pick true true false d h = absurd h
pick true false c d h = absurd h
pick false b c d h = absurd h

less_off : (o : Ordering) → T (is_lt o) → is_eq o ≡ false
less_off Less h = refl
less_off Equal h = absurd h
less_off Greater h = absurd h

second : (a b : Bool) → T (a && b) → T b
second true b h = h
second false b h = absurd h

below_none : {X : Type 0} (q : List ℕ) (v : X) (es : List (List ℕ × X)) → T (is_sorted (slice_cmp nat_cmp) ((q, v) ∷ es)) → find (slice_cmp nat_cmp) q es ≡ None
below_none q v [] s = refl
below_none {X} q v (e ∷ es) s =
    let p = pick (is_lt (slice_cmp nat_cmp q e.0)) _ _ _ s in
    ap (λ (t : Bool). cond {A = Option X} t (Some e.1) (find (slice_cmp nat_cmp) q es)) (less_off (slice_cmp nat_cmp q e.0) p.0) ∙ below_none q v es p.1

abbrev pub AllPairs : {X : Type 0} → (List ℕ → X → Type 0) → List (List ℕ × X) → Type 0
AllPairs P [] = Unit {0}
AllPairs P (x ∷ xs) = P x.0 x.1 × AllPairs P xs

itself : (q : List ℕ) → eq_by_cmp (slice_cmp nat_cmp) q q ≡ true
itself q = sym (texts_ties q q) ∙ nat_list_eq_equiv.refl q

all-found : {X : Type 0} (P : List ℕ → X → Type 0) (es : List (List ℕ × X)) → T (is_sorted (slice_cmp nat_cmp) es) → ((q : List ℕ) (v : X) → find (slice_cmp nat_cmp) q es ≡ Some v → P q v) → AllPairs P es
all-found P [] s f = tt
all-found {X} P (e ∷ es) s f =
    (f e.0 e.1 (ap (λ (t : Bool). cond {A = Option X} t (Some e.1) (find (slice_cmp nat_cmp) e.0 es)) (itself e.0)), all-found P es (second _ _ s) (λ q v h. f q v (later q v h)))
  where
    later : (q : List ℕ) (v : X) → find (slice_cmp nat_cmp) q es ≡ Some v → find (slice_cmp nat_cmp) q (e ∷ es) ≡ Some v
    later q v h = by (eq_by_cmp (slice_cmp nat_cmp) q e.0) refl
      where
        by : (t : Bool) → eq_by_cmp (slice_cmp nat_cmp) q e.0 ≡ t → cond {A = Option X} t (Some e.1) (find (slice_cmp nat_cmp) q es) ≡ Some v
        by true is =
            let same_key : q ≡ e.0 = (bytes_eq-Decides q e.0).0 (texts_ties q e.0 ∙ is) in
            let none : find (slice_cmp nat_cmp) q es ≡ None = subst (λ (k : List ℕ). find (slice_cmp nat_cmp) k es ≡ None) (sym same_key) (below_none e.0 e.1 es s) in
            let bad : None ≡ Some v = sym none ∙ h in absurd cc
        by false is = h

-- what holds of each text that a map has holds of each of its entries
pub all-entries : {X : Type 0} (P : List ℕ → X → Type 0) (m : TextMap X) → ((q : List ℕ) (v : X) → finite.get m q ≡ Some v → P q v) → AllPairs P (finite.entries m)
all-entries P m f = all-found P (finite.entries m) (entries_sorted m) (λ q v h. f q v (get-entries m q ∙ h))

-- what a test finds of each of them, and two such findings together
pub all-tested : {X : Type 0} (test : List ℕ × X → Bool) (xs : List (List ℕ × X)) → list_all test xs ≡ true → AllPairs (λ q v. test (q, v) ≡ true) xs
all-tested test [] e = tt
all-tested test (x ∷ xs) e = (first_so (test x) (list_all test xs) e, all-tested test xs (second_so (test x) (list_all test xs) e))

pub all-both : {X : Type 0} (P Q R : List ℕ → X → Type 0) (xs : List (List ℕ × X)) → ((q : List ℕ) (v : X) → P q v → Q q v → R q v) → AllPairs P xs → AllPairs Q xs → AllPairs R xs
all-both P Q R [] f h k = tt
all-both P Q R (x ∷ xs) f h k = (f x.0 x.1 h.0 k.0, all-both P Q R xs f h.1 k.1)

-- ---- Lines of ascending texts are not refused.

module _ (form : Form) where
  pub passes_line : (earlier : List (List ℕ)) (l : List ℕ) (rest : List (List ℕ)) → own_cause form (length earlier + 1) l ≡ None → repetition form.version earlier l ≡ None
      → fault_after form (earlier ++ l ∷ []) rest ≡ None → fault_after form earlier (l ∷ rest) ≡ None
  passes_line earlier l rest o r f =
      ap (λ (c : Option Cause). option_or (option_map {U = ℕ × Cause} (λ cause. (length earlier + 1, cause)) (option_or c (repetition form.version earlier l))) (fault_after form (earlier ++ l ∷ []) rest)) o
      ∙ ap (λ (c : Option Cause). option_or (option_map {U = ℕ × Cause} (λ cause. (length earlier + 1, cause)) c) (fault_after form (earlier ++ l ∷ []) rest)) r ∙ f

  pub enough : (n : ℕ) → 2 < n → option_map {U = ℕ × Cause} (λ cause. (n + 1, cause)) (missing_head n) ≡ None
  enough n h = rw (other 0 n (omega arith), other 1 n (omega arith), other 2 n (omega arith)) refl
    where
      other : (k n : ℕ) → k < n → eqb n k ≡ false
      other k n h = grind (arith, nat_tests)

  module _ {X : Type 0} (spells : List ℕ → Option (List ℕ)) (line : List ℕ × X → List ℕ) where
    pub record Fine (q : List ℕ) (v : X) : Type 0 where
      pub own : (n : ℕ) → 3 < n → own_cause form n (line (q, v)) ≡ None
      pub says : spells (line (q, v)) ≡ Some q
      pub alone : (earlier : List (List ℕ)) → is_repeated spells earlier q ≡ false → repetition form.version earlier (line (q, v)) ≡ None

    abbrev pub AllNew : List (List ℕ) → List (List ℕ × X) → Type 0
    AllNew earlier [] = Unit {0}
    AllNew earlier (x ∷ xs) = (is_repeated spells earlier x.0 ≡ false) × AllNew earlier xs

    new-more : (earlier : List (List ℕ)) (l q : List ℕ) (v : X) (xs : List (List ℕ × X)) → spells l ≡ Some q → T (is_sorted (slice_cmp nat_cmp) ((q, v) ∷ xs)) → AllNew earlier xs → AllNew (earlier ++ l ∷ []) xs
    new-more earlier l q v [] says s new = tt
    new-more earlier l q v (x ∷ xs) says s new =
        let p = pick (is_lt (slice_cmp nat_cmp q x.0)) _ _ _ s in
        let apart : is_same q x.0 ≡ false = texts_ties q x.0 ∙ less_off (slice_cmp nat_cmp q x.0) p.0 in (
          list_any-append (λ other. option_map_or (λ t. is_same t x.0) (spells other) false) earlier (l ∷ [])
              ∙ ap (λ (o : Option (List ℕ)). is_repeated spells earlier x.0 || (option_map_or (λ t. is_same t x.0) o false || false)) says
              ∙ ap (λ (t : Bool). is_repeated spells earlier x.0 || (t || false)) apart ∙ ap (λ (t : Bool). t || false) new.0,
          new-more earlier l q v xs says p.1 new.1,
        )

    pub chain : (xs : List (List ℕ × X)) → AllPairs Fine xs → T (is_sorted (slice_cmp nat_cmp) xs) → (earlier : List (List ℕ)) → 2 < length earlier → AllNew earlier xs
        → (rest : List (List ℕ)) → fault_after form (earlier ++ map line xs) rest ≡ None → fault_after form earlier (map line xs ++ rest) ≡ None
    chain [] fine s earlier long new rest h = subst (λ (ls : List (List ℕ)). fault_after form ls rest ≡ None) (append-nil earlier) h
    chain (x ∷ xs) fine s earlier long new rest h =
        let f = fine.0 in
        passes_line earlier (line x) (map line xs ++ rest) (f.own (length earlier + 1) (omega arith)) (f.alone earlier new.0)
        (chain xs fine.1 (second _ _ s) (earlier ++ line x ∷ []) (omega (arith, length-append earlier (line x ∷ []))) (new-more earlier (line x) x.0 x.1 xs f.says s new.1) rest
        (subst (λ (ls : List (List ℕ)). fault_after form ls rest ≡ None) (sym (append_assoc earlier (line x ∷ []) (map line xs))) h))

    -- lines that spell no such text
    abbrev pub AllSilent : List (List ℕ) → Type 0
    AllSilent [] = Unit {0}
    AllSilent (l ∷ ls) = (spells l ≡ None) × AllSilent ls

    none-stand : (ls : List (List ℕ)) (q : List ℕ) → AllSilent ls → is_repeated spells ls q ≡ false
    none-stand [] q h = refl
    none-stand (l ∷ ls) q h = ap (λ (o : Option (List ℕ)). option_map_or (λ t. is_same t q) o false || is_repeated spells ls q) h.0 ∙ none-stand ls q h.1

    pub all-new : (ls : List (List ℕ)) (xs : List (List ℕ × X)) → AllSilent ls → AllNew ls xs
    all-new ls [] h = tt
    all-new ls (x ∷ xs) h = (none-stand ls x.0 h, all-new ls xs h)

-- ---- What lines of a map spell.

entries_again : {X : Type 0} (m : TextMap X) → finite.from_entries (finite.entries m) ≡ m
entries_again m = same_map nat_list_cmp_total (slice_cmp-IsAntisymmetric nat_cmp-IsAntisymmetric) _ _ (λ q. get-from_entries nat_list_cmp_total (finite.entries m) q ∙ sym (get-entries m q))

module _ {X : Type 0} (spells : List ℕ → Option (List ℕ × X)) (line : List ℕ × X → List ℕ) where
  abbrev pub Again : List ℕ → X → Type 0
  Again q v = spells (line (q, v)) ≡ Some (q, v)

  spelt_each : (xs : List (List ℕ × X)) → AllPairs Again xs → filter_map spells (map line xs) ≡ xs
  spelt_each [] h = refl
  spelt_each (x ∷ xs) h = ap (λ (o : Option (List ℕ × X)). cons_option o (filter_map spells (map line xs))) h.0 ∙ ap (λ (ys : List (List ℕ × X)). x ∷ ys) (spelt_each xs h.1)

  abbrev pub AllQuiet : List (List ℕ) → Type 0
  AllQuiet [] = Unit {0}
  AllQuiet (l ∷ ls) = (spells l ≡ None) × AllQuiet ls

  quiet : (ls : List (List ℕ)) → AllQuiet ls → filter_map spells ls ≡ []
  quiet [] h = refl
  quiet (l ∷ ls) h = ap (λ (o : Option (List ℕ × X)). cons_option o (filter_map spells ls)) h.0 ∙ quiet ls h.1

  -- lines that say nothing of the map before and after its own
  pub gathered_again : (m : TextMap X) (before after : List (List ℕ)) → AllPairs Again (finite.entries m) → AllQuiet before → AllQuiet after → map_of_lines spells (before ++ (map line (finite.entries m) ++ after)) ≡ m
  gathered_again m before after h b a =
      ap (λ (es : List (List ℕ × X)). finite.from_entries {R = slice_cmp nat_cmp} es)
      (filter_map-append spells before (map line (finite.entries m) ++ after)
      ∙ ap (λ (es : List (List ℕ × X)). es ++ filter_map spells (map line (finite.entries m) ++ after)) (quiet before b)
      ∙ filter_map-append spells (map line (finite.entries m)) after
      ∙ ap (λ (es : List (List ℕ × X)). es ++ filter_map spells after) (spelt_each (finite.entries m) h)
      ∙ ap (λ (es : List (List ℕ × X)). finite.entries m ++ es) (quiet after a) ∙ append-nil (finite.entries m))
      ∙ entries_again m
