-- The first line of an accepted text names its kind.
use Rattle.std.proofs.Common.{◌≡◌, ℕ, Bool, true, false, List, [], ◌∷◌, Option, Some, None, refl, ap, sym, subst, ◌∙◌, nat_eq, eqb-true, cond, option_map, slice_index_or}
use Rattle.std.specs.Option.{option_or}
use Rattle.std.specs.Cmp.Lexicographic.{pointwise}
use Rattle.std.proofs.lemmas.Bool.{not-false, and_parts}
use Rattle.hyphenation_grammar.specs.Form.{form_of, head_of, version_by}
use Rattle.hyphenation_grammar.specs.Judging.{cause_of, fails, fault_after, fault_of, own_cause, repetition}
use Rattle.hyphenation_grammar.specs.Lines.{is_same, lines_of}
use Rattle.hyphenation_grammar.specs.declared.Cause.TheVariants.{NotUtf8, Header}
use Rattle.hyphenation_grammar.specs.declared.form.Kind.{Kind}
use Rattle.hyphenation_grammar.specs.declared.form.Kind.TheVariants.{Standard, Extended}
use Rattle.hyphenation_grammar.specs.declared.form.Version.{Version}
use Rattle.hyphenation_grammar.specs.declared.form.Version.TheVariants.{First, Second}
use Rattle.any_dictionary.specs.Kinds.{kind_by_head}
use Rattle.any_dictionary.specs.Laws.{AcceptedNamesItsKind}

-- Texts of which each byte is the same are equal.
same_text : (xs ys : List ℕ) → is_same xs ys ≡ true → xs ≡ ys
same_text [] [] e = refl
same_text [] (y ∷ ys) e = cc
same_text (x ∷ xs) [] e = cc
same_text (x ∷ xs) (y ∷ ys) e =
    let head = eqb-true x y (and_parts (nat_eq x y) (pointwise nat_eq xs ys) e).0 in
    let tail = same_text xs ys (and_parts (nat_eq x y) (pointwise nat_eq xs ys) e).1 in
    ap (λ z. z ∷ xs) head ∙ ap (λ zs. y ∷ zs) tail

none_or : {X : Type 0} (a b : Option X) → option_or a b ≡ None → a ≡ None
none_or None b e = refl
none_or (Some x) b e = cc

none_mapped : {X Y : Type 0} (f : X → Y) (a : Option X) → option_map f a ≡ None → a ≡ None
none_mapped f None e = refl
none_mapped f (Some x) e = cc

-- Where a search finds nothing, its second test fails.
second_fails : {X : Type 0} (p q : Bool) (x y : X) (z : Option X) → cond p (Some x) (cond q (Some y) z) ≡ None → q ≡ false
second_fails true q x y z e = cc
second_fails false true x y z e = cc
second_fails false false x y z e = refl

-- Each of the four heads names its kind.
head_names : (kind : Kind) (version : Version) → kind_by_head (head_of kind version) ≡ Some kind
head_names Standard First = refl
head_names Standard Second = refl
head_names Extended First = refl
head_names Extended Second = refl

names_kind : (kind : Kind) (version : Version) (line : List ℕ) → is_same line (head_of kind version) ≡ true
    → kind_by_head line ≡ Some kind
names_kind kind version line same =
    subst (λ text. kind_by_head text ≡ Some kind) (sym (same_text line (head_of kind version) same)) (head_names kind version)

by_lines : (kind : Kind) (lines : List (List ℕ)) → fault_of kind lines ≡ None
    → kind_by_head (slice_index_or lines 0 []) ≡ Some kind
by_lines kind [] e = cc
by_lines kind (line ∷ lines) e =
    let form = form_of kind (line ∷ lines) in
    let own = none_or (own_cause form 1 line) (repetition form.version [] line)
    (none_mapped (λ cause. (1, cause)) (cause_of form [] line) (none_or _ (fault_after form (line ∷ []) lines) e)) in
    names_kind kind (version_by kind line) line
    (not-false _ (second_fails (fails form 1 line NotUtf8) (fails form 1 line Header) NotUtf8 Header _ own))

pub accepted_names_its_kind : AcceptedNamesItsKind
accepted_names_its_kind kind text e = by_lines kind (lines_of text) e
