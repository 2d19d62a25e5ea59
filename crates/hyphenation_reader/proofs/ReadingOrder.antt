-- The items of an accepted text are those that some line spells, so the order of lines means nothing.
use Rattle.std.proofs.Common.{◌≡◌, ℕ, ◌+◌, Bool, true, false, cond, List, [], ◌∷◌, ◌++◌, length, Option, Some, None, is_some, unwrap_or, refl, sym, ap, subst, ◌∙◌, append_assoc, inl, inr}
use Rattle.std.specs.Prelude.{◌⊎◌}
use Rattle.std.proofs.lemmas.List.{append-nil}
use Rattle.std.specs.Option.{option_map, option_or}
use Rattle.std.specs.Ordering.{nat_cmp, eq_by_cmp}
use Rattle.std.specs.Cmp.Lexicographic.{slice_cmp, nat_list_cmp_total, nat_list_eq_equiv, texts_ties, bytes_decides}
use Rattle.std.specs.FinMap as finite
use Rattle.std.specs.FinMap.{get-insert, get-empty, same_map, nat_cmp-IsAntisymmetric, slice_cmp-IsAntisymmetric}
use Rattle.hyphenation_breaks.specs.Break.{Break, Change}
use Rattle.hyphenation_breaks.specs.Dictionary.{TextMap}
use Rattle.hyphenation_grammar.specs.declared.form.Form.{Form}
use Rattle.hyphenation_grammar.specs.Items.{pattern_of_line, exception_of_line}
use Rattle.hyphenation_grammar.specs.Lines.{language_of, minima_of}
use Rattle.hyphenation_grammar.specs.Judging.{fault_after, own_cause, repetition}
use Rattle.hyphenation_grammar.specs.Reading.{map_of_lines, spelling_as, entry_as, items_of_lines, contents_in}
use Rattle.hyphenation_grammar.specs.declared.Cause.{Cause}
use Rattle.hyphenation_reader.proofs.SomeLine.{SomeLine, AllAmong}
use Rattle.hyphenation_reader.proofs.ItemsOfLines.{has, with_spelt, gathered-more, new_key, new_word}

some_end : (P : List ℕ → Type 0) (ls : List (List ℕ)) (l : List ℕ) → P l → SomeLine P (ls ++ l ∷ [])
some_end P [] l h = inl h
some_end P (m ∷ ls) l h = inr (some_end P ls l h)

some_front : (P : List ℕ → Type 0) (ls : List (List ℕ)) (l : List ℕ) → SomeLine P ls → SomeLine P (ls ++ l ∷ [])
some_front P [] l h = absurd h
some_front P (m ∷ ls) l (inl h) = inl h
some_front P (m ∷ ls) l (inr h) = inr (some_front P ls l h)

some_of : (P : List ℕ → Type 0) (ls : List (List ℕ)) (l : List ℕ) → SomeLine P (ls ++ l ∷ []) → SomeLine P ls ⊎ P l
some_of P [] l (inl h) = inr h
some_of P [] l (inr h) = absurd h
some_of P (m ∷ ls) l (inl h) = inl (inl h)
some_of P (m ∷ ls) l (inr h) = elim (some_of P ls l h) [ inl x ↦ inl (inr x) | inr x ↦ inr x ]

some_map : (P Q : List ℕ → Type 0) (ls : List (List ℕ)) → ((l : List ℕ) → P l → Q l) → SomeLine P ls → SomeLine Q ls
some_map P Q [] f h = h
some_map P Q (m ∷ ls) f (inl h) = inl (f m h)
some_map P Q (m ∷ ls) f (inr h) = inr (some_map P Q ls f h)

-- the line itself
some_is : (P : List ℕ → Type 0) (ls : List (List ℕ)) → SomeLine P ls → (l : List ℕ) × P l × SomeLine (λ m. m ≡ l) ls
some_is P [] h = absurd h
some_is P (m ∷ ls) (inl h) = (m, h, inl refl)
some_is P (m ∷ ls) (inr h) = let r = some_is P ls h in (r.0, r.1, inr r.2)

moved : (P : List ℕ → Type 0) (ls ms : List (List ℕ)) → AllAmong ls ms → SomeLine P ls → SomeLine P ms
moved P ls ms among h =
    let r = some_is P ls h in
    some_map (λ m. m ≡ r.0) P ms (λ l e. subst P (sym e) r.1) (among r.0 r.2)

-- the map says what the lines spell
abbrev pub Tells : {X : Type 0} → (List ℕ → Option (List ℕ × X)) → List (List ℕ) → Type 0
Tells {X} spells lines = (k : List ℕ) (v : X) → (finite.get (map_of_lines spells lines) k ≡ Some v → SomeLine (λ l. spells l ≡ Some (k, v)) lines) × (SomeLine (λ l. spells l ≡ Some (k, v)) lines → finite.get (map_of_lines spells lines) k ≡ Some v)

untied : (a b : List ℕ) → eq_by_cmp (slice_cmp nat_cmp) a b ≡ false → a ≡ b → ⊥
untied a b e is = let itself : eq_by_cmp (slice_cmp nat_cmp) a b ≡ true = subst (λ (x : List ℕ). eq_by_cmp (slice_cmp nat_cmp) a x ≡ true) is ((sym (texts_ties a a) ∙ nat_list_eq_equiv.refl a)) in absurd cc

no_longer : {X : Type 0} (o : Option X) (v : X) → is_some o ≡ false → o ≡ Some v → ⊥
no_longer None v e h = absurd cc
no_longer (Some x) v e h = absurd cc

tells_more : {X : Type 0} (spells : List ℕ → Option (List ℕ × X)) (earlier : List (List ℕ)) (line : List ℕ)
    → has (map_of_lines spells earlier) (spells line) ≡ false → Tells spells earlier → Tells spells (earlier ++ line ∷ [])
tells_more {X} spells earlier line new tells k v = subst (λ (m : TextMap X). (finite.get m k ≡ Some v → SomeLine (λ l. spells l ≡ Some (k, v)) (earlier ++ line ∷ [])) × (SomeLine (λ l. spells l ≡ Some (k, v)) (earlier ++ line ∷ []) → finite.get m k ≡ Some v)) (sym (gathered-more spells earlier line new))
    (by (spells line) refl new)
  where
    by : (o : Option (List ℕ × X)) → spells line ≡ o → has (map_of_lines spells earlier) o ≡ false → (finite.get (with_spelt (map_of_lines spells earlier) o) k ≡ Some v → SomeLine (λ l. spells l ≡ Some (k, v)) (earlier ++ line ∷ [])) × (SomeLine (λ l. spells l ≡ Some (k, v)) (earlier ++ line ∷ []) → finite.get (with_spelt (map_of_lines spells earlier) o) k ≡ Some v)
    by None e fresh = (
      λ h. some_front (λ l. spells l ≡ Some (k, v)) earlier line ((tells k v).0 h),
      λ h. elim (some_of (λ l. spells l ≡ Some (k, v)) earlier line h) [ inl x ↦ (tells k v).1 x | inr x ↦ absurd cc ],
    )
    by (Some x) e fresh = both (eq_by_cmp (slice_cmp nat_cmp) k x.0) refl
      where
        both : (t : Bool) → eq_by_cmp (slice_cmp nat_cmp) k x.0 ≡ t → (finite.get (finite.insert (map_of_lines spells earlier) x.0 x.1) k ≡ Some v → SomeLine (λ l. spells l ≡ Some (k, v)) (earlier ++ line ∷ [])) × (SomeLine (λ l. spells l ≡ Some (k, v)) (earlier ++ line ∷ []) → finite.get (finite.insert (map_of_lines spells earlier) x.0 x.1) k ≡ Some v)
        both true t =
            let is : k ≡ x.0 = (bytes_decides k x.0).0 (texts_ties k x.0 ∙ t) in
            let got : finite.get (finite.insert (map_of_lines spells earlier) x.0 x.1) k ≡ Some x.1 = get-insert nat_list_cmp_total (map_of_lines spells earlier) x.0 x.1 k ∙ ap (λ (b : Bool). cond b (Some x.1) (finite.get (map_of_lines spells earlier) k)) t in (
              λ h. let same : x.1 ≡ v = cc in some_end (λ l. spells l ≡ Some (k, v)) earlier line (e ∙ (λ i. Some (sym is i, same i))),
              λ h. elim (some_of (λ l. spells l ≡ Some (k, v)) earlier line h) [
                | inl y ↦ let was : finite.get (map_of_lines spells earlier) x.0 ≡ Some v = subst (λ (q : List ℕ). finite.get (map_of_lines spells earlier) q ≡ Some v) is ((tells k v).1 y) in absurd (no_longer (finite.get (map_of_lines spells earlier) x.0) v fresh was)
                | inr y ↦ got ∙ cc
              ],
            )
        both false t =
            let got : finite.get (finite.insert (map_of_lines spells earlier) x.0 x.1) k ≡ finite.get (map_of_lines spells earlier) k = get-insert nat_list_cmp_total (map_of_lines spells earlier) x.0 x.1 k ∙ ap (λ (b : Bool). cond b (Some x.1) (finite.get (map_of_lines spells earlier) k)) t in (
              λ h. some_front (λ l. spells l ≡ Some (k, v)) earlier line ((tells k v).0 (sym got ∙ h)),
              λ h. elim (some_of (λ l. spells l ≡ Some (k, v)) earlier line h) [
                | inl y ↦ got ∙ (tells k v).1 y
                | inr y ↦ absurd (untied k x.0 t cc)
              ],
            )

pub no_fault : (a b : Option Cause) (n : ℕ) (rest : Option (ℕ × Cause)) → option_or (option_map (λ cause. (n, cause)) (option_or a b)) rest ≡ None → (a ≡ None) × (None ≡ b) × (rest ≡ None)
no_fault None None n rest e = (refl, refl, e)
no_fault None (Some c) n rest e = absurd cc
no_fault (Some c) b n rest e = absurd cc

-- through all lines that are not refused
module _ {X : Type 0} (form : Form) (spells : List ℕ → Option (List ℕ × X)) (new : (earlier : List (List ℕ)) (line : List ℕ) → None ≡ repetition form.version earlier line → has (map_of_lines spells earlier) (spells line) ≡ false) where
  tells_all : (earlier lines : List (List ℕ)) → fault_after form earlier lines ≡ None → Tells spells earlier → Tells spells (earlier ++ lines)
  tells_all earlier [] e tells = subst (Tells spells) (sym (append-nil earlier)) tells
  tells_all earlier (line ∷ lines) e tells =
      let n = no_fault (own_cause form (length earlier + 1) line) (repetition form.version earlier line) (length earlier + 1) (fault_after form (earlier ++ line ∷ []) lines) e in
      subst (Tells spells) (append_assoc earlier (line ∷ []) lines)
      (tells_all (earlier ++ line ∷ []) lines n.2 (tells_more spells earlier line (new earlier line n.1) tells))

  nothing_told : Tells spells []
  nothing_told k v = (λ h. let none : finite.get (map_of_lines spells []) k ≡ None = get-empty (slice_cmp nat_cmp) k in absurd cc, λ h. absurd h)

  all_told : (lines : List (List ℕ)) → fault_after form [] lines ≡ None → Tells spells lines
  all_told lines e = tells_all [] lines e nothing_told

same_answer : {X : Type 0} (a b : Option X) → ((v : X) → a ≡ Some v → b ≡ Some v) → ((v : X) → b ≡ Some v → a ≡ Some v) → a ≡ b
same_answer None None f g = refl
same_answer None (Some y) f g = g y refl
same_answer (Some x) b f g = sym (f x refl)

same_gathered : {X : Type 0} (spells : List ℕ → Option (List ℕ × X)) (ls ms : List (List ℕ)) → Tells spells ls → Tells spells ms → AllAmong ls ms → AllAmong ms ls → map_of_lines spells ls ≡ map_of_lines spells ms
same_gathered {X} spells ls ms a b there back = same_map nat_list_cmp_total (slice_cmp-IsAntisymmetric nat_cmp-IsAntisymmetric) _ _ (λ k. same_answer (finite.get (map_of_lines spells ls) k) (finite.get (map_of_lines spells ms) k)
    (λ v h. (b k v).1 (moved (λ l. spells l ≡ Some (k, v)) ls ms there ((a k v).0 h)))
    (λ v h. (a k v).1 (moved (λ l. spells l ≡ Some (k, v)) ms ls back ((b k v).0 h))))

module _ {C B : Type 0} (payload_of : Option Change → C) (listing_of : Break → B) where
  -- the law on patterns and exceptions
  pub patterns-told : (form : Form) (lines : List (List ℕ)) → fault_after form [] lines ≡ None → Tells (spelling_as (entry_as payload_of) (pattern_of_line form.version)) lines
  patterns-told form = all_told form (spelling_as (entry_as payload_of) (pattern_of_line form.version)) (new_key form.version payload_of listing_of)

  pub exceptions-told : (form : Form) (lines : List (List ℕ)) → fault_after form [] lines ≡ None → Tells (spelling_as listing_of exception_of_line) lines
  exceptions-told form = all_told form (spelling_as listing_of exception_of_line) (new_word form.version payload_of listing_of)

  -- accepted texts of the same lines, in whatever order, spell the same
  pub same-lines : (form : Form) (ls ms : List (List ℕ)) → fault_after form [] ls ≡ None → fault_after form [] ms ≡ None → AllAmong ls ms → AllAmong ms ls → items_of_lines form.version payload_of listing_of ls ≡ items_of_lines form.version payload_of listing_of ms
  same-lines form ls ms e f there back = λ i. record {
    patterns = same_gathered (spelling_as (entry_as payload_of) (pattern_of_line form.version)) ls ms (patterns-told form ls e) (patterns-told form ms f) there back i;
    exceptions = same_gathered (spelling_as listing_of exception_of_line) ls ms (exceptions-told form ls e) (exceptions-told form ms f) there back i;
  }

one_more : (l : List ℕ) (ls ms : List (List ℕ)) → AllAmong ls ms → AllAmong (l ∷ ls) (l ∷ ms)
one_more l ls ms there q (inl e) = inl e
one_more l ls ms there q (inr h) = inr (there q h)

three_more : (first second third : List ℕ) (ls ms : List (List ℕ)) → AllAmong ls ms → AllAmong (first ∷ second ∷ third ∷ ls) (first ∷ second ∷ third ∷ ms)
three_more first second third ls ms there = one_more first (second ∷ third ∷ ls) (second ∷ third ∷ ms) (one_more second (third ∷ ls) (third ∷ ms) (one_more third ls ms there))

module _ {C B : Type 0} (payload_of : Option Change → C) (listing_of : Break → B) (form : Form) (first second third : List ℕ) (ls ms : List (List ℕ)) where
  -- and so give the same dictionary
  pub same-contents : fault_after form [] (first ∷ second ∷ third ∷ ls) ≡ None → fault_after form [] (first ∷ second ∷ third ∷ ms) ≡ None → AllAmong ls ms → AllAmong ms ls
      → contents_in form.version payload_of listing_of (first ∷ second ∷ third ∷ ls) ≡ contents_in form.version payload_of listing_of (first ∷ second ∷ third ∷ ms)
  same-contents e f there back =
      let same = same-lines payload_of listing_of form (first ∷ second ∷ third ∷ ls) (first ∷ second ∷ third ∷ ms) e f (three_more first second third ls ms there) (three_more first second third ms ls back) in
      λ i. record {
        language = unwrap_or (language_of second) [];
        left = (unwrap_or (minima_of third) (0, 0)).0;
        right = (unwrap_or (minima_of third) (0, 0)).1;
        patterns = (same i).patterns;
        exceptions = (same i).exceptions;
      }
