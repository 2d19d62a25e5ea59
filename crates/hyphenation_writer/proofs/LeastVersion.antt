-- The canonical text takes the first version if that can write each value.
use Rattle.std.proofs.Common.{◌≡◌, ℕ, suc, ◌≤◌, Bool, true, false, cond, eqb, nat_le, List, [], ◌∷◌, length, drop, get_or, Option, Some, refl, sym, ap, ◌∙◌, append_assoc, arith}
use Rattle.std.specs.Prelude.{◌↔◌}
use Rattle.std.specs.List.{list_all, slice_split, All, AllByRecursion}
use Rattle.std.specs.Ordering.{nat_cmp, eq_by_cmp}
use Rattle.std.specs.Cmp.Lexicographic.{slice_cmp}
use Rattle.std.specs.FinMap as finite
use Rattle.std.specs.FinMap.{find, get-entries}
use Rattle.std.proofs.lemmas.Bool.{leb-true, and_from, le-leb}
use Rattle.std.proofs.lemmas.Bool.Decides.{nat_tests}
use Rattle.std.proofs.lemmas.List.Elements.{All-from_recursion, recursion_from_All}
use Rattle.std.proofs.lemmas.List.Splits.{slice_split_at}
use Rattle.hyphenation_breaks.specs.Break.{Break, Change}
use Rattle.hyphenation_writer.specs.Canonical.{are_digits, canonical_lines, canonical_text_of, with_line_feeds, version_for}
use Rattle.hyphenation_breaks.specs.Dictionary.{Contents}
use Rattle.hyphenation_grammar.specs.Form.{head_of, version_by}
use Rattle.hyphenation_grammar.specs.Lines.{lines_of, without_empty_last}
use Rattle.hyphenation_breaks.specs.declared.entry.Entry.{Entry}
use Rattle.hyphenation_grammar.specs.declared.form.Kind.{Kind}
use Rattle.hyphenation_grammar.specs.declared.form.Kind.TheVariants.{Standard, Extended}
use Rattle.hyphenation_grammar.specs.declared.form.Version.{Version}
use Rattle.hyphenation_grammar.specs.declared.form.Version.TheVariants.{First, Second}
use Rattle.hyphenation_writer.proofs.CanonicalAccepted.{AllPairs, all-entries}
use Rattle.hyphenation_writer.proofs.SpelledBytes.{Free}
use Rattle.std.specs.Cmp.{first_so, second_so}
use Rattle.hyphenation_writer.proofs.CanonicalRead.{head_feed, version-again}

-- ---- The first line.

kept_first : (l : List ℕ) (b : ℕ) (parts : List (List ℕ)) → get_or (without_empty_last ((b ∷ l) ∷ parts)) 0 [] ≡ b ∷ l
kept_first l b [] = ap (λ (t : Bool). get_or (cond t [] ((b ∷ l) ∷ [])) 0 []) (some (length l))
  where
    some : (n : ℕ) → eqb (suc n) 0 ≡ false
    some n = grind (arith, nat_tests)
kept_first l b (part ∷ parts) = refl

first_again : (l : List ℕ) (b : ℕ) (ls : List (List ℕ)) → Free 10 (b ∷ l) → get_or (lines_of (with_line_feeds ((b ∷ l) ∷ ls))) 0 [] ≡ b ∷ l
first_again l b ls free =
    ap (λ (parts : List (List ℕ)). get_or (without_empty_last parts) 0 [])
    (ap (slice_split (λ c. eqb c 10)) (append_assoc (b ∷ l) (10 ∷ []) (with_line_feeds ls)) ∙ slice_split_at (λ c. eqb c 10) (b ∷ l) 10 (with_line_feeds ls) (All-from_recursion (λ c. eqb c 10 ≡ false) (b ∷ l) free) refl)
    ∙ kept_first l b (slice_split (λ c. eqb c 10) (with_line_feeds ls))

head_again : (kind : Kind) (version : Version) (ls : List (List ℕ)) → get_or (lines_of (with_line_feeds (head_of kind version ∷ ls))) 0 [] ≡ head_of kind version
head_again Standard First ls = first_again _ _ ls (head_feed Standard First)
head_again Standard Second ls = first_again _ _ ls (head_feed Standard Second)
head_again Extended First ls = first_again _ _ ls (head_feed Extended First)
head_again Extended Second ls = first_again _ _ ls (head_feed Extended Second)

same_version : (kind : Kind) (v w : Version) → head_of kind v ≡ head_of kind w → v ≡ w
same_version kind v w e = sym (version-again kind v) ∙ ap (version_by kind) e ∙ version-again kind w

-- ---- Values.

found-passes : {X : Type 0} (p : X → Bool) (q : List ℕ) (v : X) (es : List (List ℕ × X)) → list_all (λ x. p x.1) es ≡ true → find (slice_cmp nat_cmp) q es ≡ Some v → p v ≡ true
found-passes p q v [] all is = absurd cc
found-passes {X} p q v (e ∷ es) all is = by (eq_by_cmp (slice_cmp nat_cmp) q e.0) (λ h. found-passes p q v es (second_so (p e.1) (list_all (λ x. p x.1) es) all) h) is
  where
    by : (t : Bool) → (find (slice_cmp nat_cmp) q es ≡ Some v → p v ≡ true) → cond {A = Option X} t (Some e.1) (find (slice_cmp nat_cmp) q es) ≡ Some v → p v ≡ true
    by true more h = let same : e.1 ≡ v = cc in ap p (sym same) ∙ first_so (p e.1) (list_all (λ x. p x.1) es) all
    by false more h = more h

pairs-pass : {X : Type 0} (p : X → Bool) (es : List (List ℕ × X)) → AllPairs (λ q v. p v ≡ true) es → list_all (λ x. p x.1) es ≡ true
pairs-pass p [] h = refl
pairs-pass p (e ∷ es) h = and_from (p e.1) (list_all (λ x. p x.1) es) h.0 (pairs-pass p es h.1)

digits-each : {C : Type 0} (es : List (Entry C)) → are_digits es ≡ true → AllByRecursion (λ e. e.value ≤ 9) es
digits-each [] h = tt
digits-each (e ∷ es) h = (leb-true e.value 9 (first_so (nat_le e.value 9) (are_digits es) h), digits-each es (second_so (nat_le e.value 9) (are_digits es) h))

each-digits : {C : Type 0} (es : List (Entry C)) → AllByRecursion (λ e. e.value ≤ 9) es → are_digits es ≡ true
each-digits [] h = refl
each-digits (e ∷ es) h = and_from (nat_le e.value 9) (are_digits es) (le-leb e.value 9 h.0) (each-digits es h.1)

pub version-least : {C B : Type 0} (kind : Kind) (change_of : C → Option Change) (break_of : B → Break) (contents : Contents C B)
    → (get_or (lines_of (canonical_text_of kind change_of break_of contents)) 0 [] ≡ head_of kind First)
    ↔ ((key : List ℕ) (entries : List (Entry C)) → finite.get contents.patterns key ≡ Some entries → All (λ e. e.value ≤ 9) entries)
version-least {C} {B} kind change_of break_of contents = (
  λ is key entries has. All-from_recursion (λ e. e.value ≤ 9) entries (digits-each entries (found-passes are_digits key entries (finite.entries contents.patterns)
      (chosen (list_all (λ x. are_digits x.1) (finite.entries contents.patterns)) (same_version kind (version_for contents) First (sym first ∙ is)))
      (sym (get-entries contents.patterns key) ∙ has))),
  λ small. first ∙ ap (λ (t : Bool). head_of kind (cond t First Second)) (pairs-pass are_digits (finite.entries contents.patterns)
      (all-entries (λ q es. are_digits es ≡ true) contents.patterns (λ q es has. each-digits es (recursion_from_All (λ e. e.value ≤ 9) es (small q es has))))),
)
  where
    first : get_or (lines_of (canonical_text_of kind change_of break_of contents)) 0 [] ≡ head_of kind (version_for contents)
    first = head_again kind (version_for contents) (drop 1 (canonical_lines (record { kind = kind; version = version_for contents }) change_of break_of contents))

    chosen : (t : Bool) → cond t First Second ≡ First → t ≡ true
    chosen true e = refl
    chosen false e = absurd cc
