-- One pass over values and listed changes, both in ascending order, finds what a search for each of them would.
use Rattle.std.proofs.Common.{◌≡◌, ◌∙◌, ℕ, ◌+◌, ◌<◌, ◌≤◌, Bool, true, false, cond, not, ◌&&◌, ◌||◌, eqb, nat_le, List, [], ◌∷◌, ◌++◌, length, drop, map, get_or, Option, Some, None, refl, sym, ap, arith, append_assoc, drop-cons, add-one, is_some, inl, inr, ◌⊎◌, ne_of_lt}
use Rattle.std.proofs.Math.ListN.{drop_of_length-le}
use Rattle.std.proofs.lemmas.List.{append-nil}
use Rattle.std.proofs.lemmas.Bool.{cases_order, and_parts, and_from, eq-eqb, le-leb, leb-true, ne_eqb}
use Rattle.std.specs.Option.{option_or}
use Rattle.std.specs.List.{list_all, list_any}
use Rattle.std.proofs.lemmas.Bool.Decides.{nat_tests}
use Rattle.hyphenation_breaks.specs.Break.{Change as Changed, ascend_on, is_boundary}
use Rattle.hyphenation_breaks.specs.Invariant.{has_letter}
use Rattle.hyphenation_grammar.specs.Items.{change_at}
use Rattle.hyphenation_reader.specs.Private.Matched.{ascend, have_values, pending, head_change_at, tail_after, matched_entries, unmatched_changes, suits_form_in_pattern, cause_before_match}
use Rattle.hyphenation_grammar.specs.Parsed.{ReadPattern, IsPatternToken, is_bad, read_pattern}
use Rattle.hyphenation_reader.specs.Private.Parsed.{ReadLater, no_later, read_later, first_token, pattern_parts, both as all}
use Rattle.hyphenation_reader.specs.Private.LineAnswers.{breaks_listed, entries_of, suits_key, pattern_cause, places_cause}
use Rattle.hyphenation_grammar.specs.Tokens.{elements_of, values_from, two_values}
use Rattle.hyphenation_breaks.specs.declared.entry.Entry.{Entry}
use Rattle.hyphenation_grammar.specs.declared.Cause.{Cause}
use Rattle.hyphenation_grammar.specs.declared.Cause.TheVariants.{Value as BadValue, Pattern, NoLetters, Number, Place, Change}
use Rattle.hyphenation_grammar.specs.declared.form.Form.{Form}
use Rattle.hyphenation_grammar.specs.declared.form.Version.{Version}
use Rattle.hyphenation_grammar.specs.declared.tokens.PatternElement.{PatternElement}
use Rattle.hyphenation_grammar.specs.declared.tokens.PatternElement.TheVariants.{Letter, Value}
use Rattle.hyphenation_reader.proofs.LineCauses.{found_marks, read_marks, spaced}
use Rattle.hyphenation_reader.proofs.ReadTokens.{both_parts}

exceeds : (a b : ℕ) → a < b → eqb b a ≡ false
exceeds a b h = grind (arith, nat_tests)

-- what ascends from one place does from an earlier one
pub from_earlier : {X : Type 0} (least more : ℕ) (xs : List (ℕ × X)) → least ≤ more → ascend more xs ≡ true → ascend least xs ≡ true
from_earlier least more [] le e = refl
from_earlier least more (x ∷ xs) le e =
    let here : more ≤ x.0 = leb-true more x.0 (and_parts (nat_le more x.0) (ascend (x.0 + 1) xs) e).0 in
    and_from (nat_le least x.0) (ascend (x.0 + 1) xs) (le-leb least x.0 (omega arith)) (and_parts (nat_le more x.0) (ascend (x.0 + 1) xs) e).1

-- whether a place has a value
abbrev has_value : List (ℕ × ℕ) → ℕ → Bool
has_value values place = list_any (λ v. eqb v.0 place) values

none_below : (place least : ℕ) (values : List (ℕ × ℕ)) → place < least → ascend least values ≡ true → has_value values place ≡ false
none_below place least [] lt e = refl
none_below place least (v ∷ values) lt e =
    let here : least ≤ v.0 = leb-true least v.0 (and_parts (nat_le least v.0) (ascend (v.0 + 1) values) e).0 in
    rw (exceeds place v.0 (omega arith)) (none_below place (v.0 + 1) values (omega arith) (and_parts (nat_le least v.0) (ascend (v.0 + 1) values) e).1)

-- an earlier value belongs to none of the listed ones, nor does an earlier listed one to any value
values_after : (v : ℕ × ℕ) (values : List (ℕ × ℕ)) (least : ℕ) (listed : List (ℕ × Option Changed)) → v.0 < least → ascend least listed ≡ true → have_values (v ∷ values) listed ≡ have_values values listed
values_after v values least [] lt e = refl
values_after v values least (b ∷ listed) lt e =
    let here : least ≤ b.0 = leb-true least b.0 (and_parts (nat_le least b.0) (ascend (b.0 + 1) listed) e).0 in
    let rest = values_after v values (b.0 + 1) listed (omega arith) (and_parts (nat_le least b.0) (ascend (b.0 + 1) listed) e).1 in
    (λ i. ((ne_eqb v.0 b.0 (ne_of_lt (omega arith))) i || has_value values b.0) && rest i)

changes_after : (b : ℕ × Option Changed) (listed : List (ℕ × Option Changed)) (place : ℕ) → b.0 < place → change_at place (breaks_listed (b ∷ listed)) ≡ change_at place (breaks_listed listed)
changes_after b listed place lt = rw (ne_eqb b.0 place (ne_of_lt lt)) refl

none_listed : (place least : ℕ) (listed : List (ℕ × Option Changed)) → place < least → ascend least listed ≡ true → change_at place (breaks_listed listed) ≡ None
none_listed place least [] lt e = refl
none_listed place least (b ∷ listed) lt e =
    let here : least ≤ b.0 = leb-true least b.0 (and_parts (nat_le least b.0) (ascend (b.0 + 1) listed) e).0 in
    rw (exceeds place b.0 (omega arith)) (none_listed place (b.0 + 1) listed (omega arith) (and_parts (nat_le least b.0) (ascend (b.0 + 1) listed) e).1)

entries_after : {C : Type 0} (payload_of : Option Changed → C) (least : ℕ) (values : List (ℕ × ℕ)) (b : ℕ × Option Changed) (listed : List (ℕ × Option Changed)) → b.0 < least → ascend least values ≡ true
    → entries_of payload_of values (b ∷ listed) ≡ entries_of payload_of values listed
entries_after payload_of least [] b listed lt e = refl
entries_after {C} payload_of least (v ∷ values) b listed lt e =
    let here : least ≤ v.0 = leb-true least v.0 (and_parts (nat_le least v.0) (ascend (v.0 + 1) values) e).0 in
    let rest = entries_after payload_of (v.0 + 1) values b listed (omega arith) (and_parts (nat_le least v.0) (ascend (v.0 + 1) values) e).1 in
    let found = changes_after b listed v.0 (omega arith) in
    (λ i. record { place = v.0; value = v.1; change = payload_of (found i) } ∷ rest i)

-- what a pass leaves, by whether all places have values
abbrev none_left : List (ℕ × Option Changed) → Bool
none_left [] = true
none_left (b ∷ rest) = false

leaves : (least more : ℕ) (values : List (ℕ × ℕ)) (listed : List (ℕ × Option Changed)) → ascend least values ≡ true → ascend more listed ≡ true → none_left (unmatched_changes values listed) ≡ have_values values listed
leaves least more [] [] e f = refl
leaves least more [] (b ∷ listed) e f = refl
leaves least more (v ∷ values) [] e f = leaves (v.0 + 1) 0 values [] (and_parts (nat_le least v.0) (ascend (v.0 + 1) values) e).1 refl
leaves least more (v ∷ values) (b ∷ listed) e f =
    by (cases_order v.0 b.0) (leaves (v.0 + 1) (b.0 + 1) values listed later rest) (leaves (v.0 + 1) b.0 values (b ∷ listed) later (and_from (nat_le b.0 b.0) (ascend (b.0 + 1) listed) (le-leb b.0 b.0 (omega arith)) rest))
  where
    later : ascend (v.0 + 1) values ≡ true
    later = (and_parts (nat_le least v.0) (ascend (v.0 + 1) values) e).1

    rest : ascend (b.0 + 1) listed ≡ true
    rest = (and_parts (nat_le more b.0) (ascend (b.0 + 1) listed) f).1

    from_here : ascend b.0 (b ∷ listed) ≡ true
    from_here = and_from (nat_le b.0 b.0) (ascend (b.0 + 1) listed) (le-leb b.0 b.0 (omega arith)) rest

    by : (v.0 ≡ b.0) ⊎ ((v.0 < b.0) ⊎ (b.0 < v.0)) → none_left (unmatched_changes values listed) ≡ have_values values listed → none_left (unmatched_changes values (b ∷ listed)) ≡ have_values values (b ∷ listed)
        → none_left (unmatched_changes values (cond (eqb b.0 v.0) listed (b ∷ listed))) ≡ ((eqb v.0 b.0 || has_value values b.0) && have_values (v ∷ values) listed)
    by (inl is) here more = rw (eq-eqb b.0 v.0 (sym is), eq-eqb v.0 b.0 is) (here ∙ sym (values_after v values (b.0 + 1) listed (omega arith) rest))
    by (inr (inl lt)) here more = rw (exceeds v.0 b.0 lt) (more ∙ sym (values_after v values b.0 (b ∷ listed) lt from_here))
    by (inr (inr gt)) here more =
        rw (ne_eqb b.0 v.0 (ne_of_lt gt)) (more ∙ shut (has_value values b.0) (eqb v.0 b.0) (have_values values listed) (have_values (v ∷ values) listed) (none_below b.0 (v.0 + 1) values (omega arith) later) (exceeds b.0 v.0 gt))
      where
        shut : (h t : Bool) (p q : Bool) → h ≡ false → t ≡ false → (h && p) ≡ ((t || h) && q)
        shut h t p q x y = rw (x, y) refl

-- the entries that it makes
pub makes : {C : Type 0} (payload_of : Option Changed → C) (least more : ℕ) (values : List (ℕ × ℕ)) (listed : List (ℕ × Option Changed)) → ascend least values ≡ true → ascend more listed ≡ true → have_values values listed ≡ true
    → matched_entries payload_of values listed ≡ entries_of payload_of values listed
makes payload_of least more [] listed e f all = refl
makes {C} payload_of least more (v ∷ values) [] e f all =
    ap (λ (es : List (Entry C)). record { place = v.0; value = v.1; change = payload_of None } ∷ es) (makes payload_of (v.0 + 1) 0 values [] (and_parts (nat_le least v.0) (ascend (v.0 + 1) values) e).1 refl refl)
makes {C} payload_of least more (v ∷ values) (b ∷ listed) e f all =
    by (cases_order v.0 b.0) (makes payload_of (v.0 + 1) (b.0 + 1) values listed later rest) (makes payload_of (v.0 + 1) b.0 values (b ∷ listed) later from_here)
  where
    later : ascend (v.0 + 1) values ≡ true
    later = (and_parts (nat_le least v.0) (ascend (v.0 + 1) values) e).1

    rest : ascend (b.0 + 1) listed ≡ true
    rest = (and_parts (nat_le more b.0) (ascend (b.0 + 1) listed) f).1

    from_here : ascend b.0 (b ∷ listed) ≡ true
    from_here = and_from (nat_le b.0 b.0) (ascend (b.0 + 1) listed) (le-leb b.0 b.0 (omega arith)) rest

    entry : Option Changed → Entry C
    entry change = record { place = v.0; value = v.1; change = payload_of change }

    by : (v.0 ≡ b.0) ⊎ ((v.0 < b.0) ⊎ (b.0 < v.0)) → (have_values values listed ≡ true → matched_entries payload_of values listed ≡ entries_of payload_of values listed)
        → (have_values values (b ∷ listed) ≡ true → matched_entries payload_of values (b ∷ listed) ≡ entries_of payload_of values (b ∷ listed))
        → record { place = v.0; value = v.1; change = payload_of (cond (eqb b.0 v.0) b.1 None) } ∷ matched_entries payload_of values (cond (eqb b.0 v.0) listed (b ∷ listed))
        ≡ record { place = v.0; value = v.1; change = payload_of (cond (eqb b.0 v.0) b.1 (change_at v.0 (breaks_listed listed))) } ∷ entries_of payload_of values (b ∷ listed)
    by (inl is) here more =
        let at_rest : have_values values listed ≡ true = sym (values_after v values (b.0 + 1) listed (omega arith) rest) ∙ (and_parts (eqb v.0 b.0 || has_value values b.0) (have_values (v ∷ values) listed) all).1 in
        rw (eq-eqb b.0 v.0 (sym is)) (ap (λ (es : List (Entry C)). entry b.1 ∷ es) (here at_rest ∙ sym (entries_after payload_of (v.0 + 1) values b listed (omega arith) later)))
    by (inr (inl lt)) here more =
        let at_rest : have_values values (b ∷ listed) ≡ true = sym (values_after v values b.0 (b ∷ listed) lt from_here) ∙ all in
        let none : change_at v.0 (breaks_listed listed) ≡ None = none_listed v.0 (b.0 + 1) listed (omega arith) rest in
        rw (exceeds v.0 b.0 lt) (λ i. entry (sym none i) ∷ more at_rest i)
    by (inr (inr gt)) here more = absurd (missing (eqb v.0 b.0) (has_value values b.0) (exceeds b.0 v.0 gt) (none_below b.0 (v.0 + 1) values (omega arith) later) (and_parts (eqb v.0 b.0 || has_value values b.0) (have_values (v ∷ values) listed) all).0)
      where
        missing : (t h : Bool) → t ≡ false → h ≡ false → (t || h) ≡ true → ⊥
        missing true h x y z = cc
        missing false true x y z = cc
        missing false false x y z = cc

-- one value more
entries_step : {C : Type 0} (payload_of : Option Changed → C) (made : List (Entry C)) (values : List (ℕ × ℕ)) (i : ℕ) (listed : List (ℕ × Option Changed)) → i < length values
    → (made ++ record { place = (get_or values i (0, 0)).0; value = (get_or values i (0, 0)).1; change = payload_of (head_change_at (get_or values i (0, 0)).0 listed) } ∷ []) ++ matched_entries payload_of (drop (i + 1) values) (tail_after (get_or values i (0, 0)).0 listed)
    ≡ made ++ matched_entries payload_of (drop i values) listed
entries_step {C} payload_of made values i listed lt =
    append_assoc made (record { place = (get_or values i (0, 0)).0; value = (get_or values i (0, 0)).1; change = payload_of (head_change_at (get_or values i (0, 0)).0 listed) } ∷ []) (matched_entries payload_of (drop (i + 1) values) (tail_after (get_or values i (0, 0)).0 listed))
    ∙ ap (λ (vs : List (ℕ × ℕ)). made ++ matched_entries payload_of vs listed) (sym (drop-cons values i (0, 0) lt ∙ ap (λ (n : ℕ). get_or values i (0, 0) ∷ drop n values) (sym (add-one i))))

pub goes_on : {C : Type 0} (payload_of : Option Changed → C) (made more : List (Entry C)) (values : List (ℕ × ℕ)) (i : ℕ) (listed rest : List (ℕ × Option Changed)) (change : Option Changed) (carried : C) → i < length values
    → more ≡ made ++ record { place = (get_or values i (0, 0)).0; value = (get_or values i (0, 0)).1; change = carried } ∷ [] → carried ≡ payload_of change
    → change ≡ head_change_at (get_or values i (0, 0)).0 listed → rest ≡ tail_after (get_or values i (0, 0)).0 listed
    → (more ++ matched_entries payload_of (drop (i + 1) values) rest ≡ made ++ matched_entries payload_of (drop i values) listed) × (unmatched_changes (drop (i + 1) values) rest ≡ unmatched_changes (drop i values) listed)
goes_on {C} payload_of made more values i listed rest change carried lt is carry taken left = (
  (λ k. is k ++ matched_entries payload_of (drop (i + 1) values) (left k))
      ∙ ap (λ (c : C). (made ++ record { place = (get_or values i (0, 0)).0; value = (get_or values i (0, 0)).1; change = c } ∷ []) ++ matched_entries payload_of (drop (i + 1) values) (tail_after (get_or values i (0, 0)).0 listed)) (carry ∙ ap payload_of taken)
      ∙ entries_step payload_of made values i listed lt,
  ap (unmatched_changes (drop (i + 1) values)) left ∙ ap (λ (vs : List (ℕ × ℕ)). unmatched_changes vs listed) (sym (drop-cons values i (0, 0) lt ∙ ap (λ (n : ℕ). get_or values i (0, 0) ∷ drop n values) (sym (add-one i)))),
)

-- after the last value
module _ (values : List (ℕ × ℕ)) (listed : List (ℕ × Option Changed)) (e : ascend 0 values ≡ true) (f : ascend 0 listed ≡ true) (i : ℕ) (past : length values ≤ i) (next : Option (ℕ × Option Changed)) (rest : List (ℕ × Option Changed)) where
  pub told : unmatched_changes (drop i values) (pending next rest) ≡ unmatched_changes values listed → have_values values listed ≡ not (is_some next)
  told is =
      sym (leaves 0 0 values listed e f) ∙ ap none_left (sym is ∙ ap (λ (vs : List (ℕ × ℕ)). unmatched_changes vs (pending next rest)) (drop_of_length-le values past)) ∙ by next
    where
      by : (o : Option (ℕ × Option Changed)) → none_left (pending o rest) ≡ not (is_some o)
      by None = refl
      by (Some b) = refl

  pub made_all : {C : Type 0} (payload_of : Option Changed → C) (made : List (Entry C)) → made ++ matched_entries payload_of (drop i values) (pending next rest) ≡ matched_entries payload_of values listed → have_values values listed ≡ true
      → made ≡ entries_of payload_of values listed
  made_all {C} payload_of made is all =
      sym (append-nil made) ∙ ap (λ (vs : List (ℕ × ℕ)). made ++ matched_entries payload_of vs (pending next rest)) (sym (drop_of_length-le values past)) ∙ is ∙ makes payload_of 0 0 values listed e f all

-- the contents of only a token
pub read_alone : (version : Version) (r : ReadPattern) (text : List ℕ) → IsPatternToken r text → pattern_parts version (spaced text) ≡ Some (r, no_later)
read_alone version r text token =
    ap (pattern_parts version) token.1
    ∙ ap (λ (empty : Bool). cond empty None (all (read_pattern version text) (Some no_later))) (exceeds 0 (length text) token.0)
    ∙ ap (λ (o : Option ReadPattern). all o (Some no_later)) (sym (token.2 version))

-- the values of marks ascend, where no two are in succession
values_ascend : (after : Bool) (at : ℕ) (marks : List PatternElement) → two_values after marks ≡ false → ascend (at + cond after 1 0) (values_from at marks) ≡ true
values_ascend after at [] e = refl
values_ascend after at (Letter b ∷ marks) e = from_earlier (at + cond after 1 0) (at + 1 + 0) (values_from (at + 1) marks) (bound after) (values_ascend false (at + 1) marks (quiet after e))
  where
    bound : (t : Bool) → at + cond t 1 0 ≤ at + 1 + 0
    bound true = omega arith
    bound false = omega arith

    quiet : (t : Bool) → ((t && false) || two_values false marks) ≡ false → two_values false marks ≡ false
    quiet true h = h
    quiet false h = h
values_ascend true at (Value v ∷ marks) e = absurd cc
values_ascend false at (Value v ∷ marks) e = by (eqb v 0) (values_ascend true at marks e)
  where
    by : (t : Bool) → ascend (at + 1) (values_from at marks) ≡ true → ascend (at + 0) (cond t (values_from at marks) ((at, v) ∷ values_from at marks)) ≡ true
    by true more = from_earlier (at + 0) (at + 1) (values_from at marks) (omega arith) more
    by false more = and_from (nat_le (at + 0) at) (ascend (at + 1) (values_from at marks)) (le-leb (at + 0) at (omega arith)) more

-- listed places ascend, where they pass the test of places
pub listed_ascend : (text : List ℕ) (least : ℕ) (listed : List (ℕ × Option Changed)) → ascend_on text least (map (λ b. b.0) listed) ≡ true → ascend least listed ≡ true
listed_ascend text least [] e = refl
listed_ascend text least (b ∷ listed) e =
    and_from (nat_le least b.0) (ascend (b.0 + 1) listed) (and_parts (nat_le least b.0) (is_boundary text b.0) (and_parts (nat_le least b.0 && is_boundary text b.0) (ascend_on text (b.0 + 1) (map (λ x. x.0) listed)) e).0).0
    (listed_ascend text (b.0 + 1) listed (and_parts (nat_le least b.0 && is_boundary text b.0) (ascend_on text (b.0 + 1) (map (λ x. x.0) listed)) e).1)

-- each change is kept and has a value, if all are kept and all have values
fits_apart : (form : Form) (key : List ℕ) (values : List (ℕ × ℕ)) (b : ℕ × Option Changed) → suits_key form key values b ≡ (suits_form_in_pattern form key b && has_value values b.0)
fits_apart form key values (place, None) = refl
fits_apart form key values (place, Some change) = refl

all_fit_apart : (form : Form) (key : List ℕ) (values : List (ℕ × ℕ)) (listed : List (ℕ × Option Changed)) → list_all (suits_key form key values) listed ≡ (list_all (suits_form_in_pattern form key) listed && have_values values listed)
all_fit_apart form key values [] = refl
all_fit_apart form key values (b ∷ listed) =
    (λ i. fits_apart form key values b i && all_fit_apart form key values listed i) ∙ swapped (suits_form_in_pattern form key b) (has_value values b.0) (list_all (suits_form_in_pattern form key) listed) (have_values values listed)
  where
    swapped : (k h ks hs : Bool) → ((k && h) && (ks && hs)) ≡ ((k && ks) && (h && hs))
    swapped true true ks hs = refl
    swapped true false true hs = refl
    swapped true false false hs = refl
    swapped false h ks hs = refl

-- so the test of changes comes in two parts
abbrev match_cause : Bool → Option Cause
match_cause all = cond all None (Some Change)

chain : (bad two dots sound kept all : Bool) (places : Option Cause)
    → cond bad (Some BadValue) (cond two (Some Pattern) (cond dots (Some NoLetters) (option_or places (cond (not (sound && (kept && all))) (Some Change) None))))
    ≡ option_or (cond bad (Some BadValue) (cond two (Some Pattern) (cond dots (Some NoLetters) (option_or places (cond (not (sound && kept)) (Some Change) None))))) (match_cause all)
chain true two dots sound kept all places = refl
chain false true dots sound kept all places = refl
chain false false true sound kept all places = refl
chain false false false sound kept all (Some cause) = refl
chain false false false false kept all None = refl
chain false false false true false all None = refl
chain false false false true true true None = refl
chain false false false true true false None = refl

pub in_two : (form : Form) (r : ReadPattern) (l : ReadLater) → pattern_cause form r l ≡ option_or (cause_before_match form r l) (match_cause (have_values r.values l.listed))
in_two form r l =
    ap (λ (b : Bool). cond (is_bad r) (Some BadValue) (cond r.has_two_values (Some Pattern) (cond (not (has_letter r.key)) (Some NoLetters) (option_or (places_cause r.key l) (cond (not (l.are_sound && b)) (Some Change) None))))) (all_fit_apart form r.key r.values l.listed)
    ∙ chain (is_bad r) r.has_two_values (not (has_letter r.key)) l.are_sound (list_all (suits_form_in_pattern form r.key) l.listed) (have_values r.values l.listed) (places_cause r.key l)

pub before_match : (form : Form) (r : ReadPattern) (l : ReadLater) (cause : Cause) → cause_before_match form r l ≡ Some cause → pattern_cause form r l ≡ Some cause
before_match form r l cause is = in_two form r l ∙ ap (λ (o : Option Cause). option_or o (match_cause (have_values r.values l.listed))) is

pub at_match : (form : Form) (r : ReadPattern) (l : ReadLater) (all : Bool) → cause_before_match form r l ≡ None → have_values r.values l.listed ≡ all → pattern_cause form r l ≡ match_cause all
at_match form r l all is told = in_two form r l ∙ (λ i. option_or (is i) (match_cause (told i)))

-- nothing is left where it is not true that something is
pub none_by : (some none : Bool) → some ≡ not none → none ≡ not some
none_by some true e = ap not (sym e)
none_by some false e = ap not (sym e)

-- the result of the match, for borrowed values
pub told_of : (lent values : List (ℕ × ℕ)) (listed : List (ℕ × Option Changed)) (known all : Bool) → lent ≡ values → known ≡ have_values lent listed → known ≡ all → have_values values listed ≡ all
told_of lent values listed known all same told is = ap (λ (vs : List (ℕ × ℕ)). have_values vs listed) (sym same) ∙ sym told ∙ is

-- both ascend, where the tests before have passed
passed : (bad two dots sound kept numbers places : Bool)
    → cond bad (Some BadValue) (cond two (Some Pattern) (cond dots (Some NoLetters) (option_or (cond (not numbers) (Some Number) (cond (not places) (Some Place) None)) (cond (not (sound && kept)) (Some Change) None)))) ≡ None
    → (bad ≡ false) × (two ≡ false) × (places ≡ true)
passed true two dots sound kept numbers places e = absurd cc
passed false true dots sound kept numbers places e = absurd cc
passed false false true sound kept numbers places e = absurd cc
passed false false false sound kept false places e = absurd cc
passed false false false sound kept true false e = absurd cc
passed false false false sound kept true true e = (refl, refl, refl)

pub both_ascend : (form : Form) (tokens : List (List ℕ)) (r : ReadPattern) (l : ReadLater) → pattern_parts form.version tokens ≡ Some (r, l) → cause_before_match form r l ≡ None → (ascend 0 r.values ≡ true) × (ascend 0 l.listed ≡ true)
both_ascend form tokens r l e none =
    let parts = both_parts (eqb (length (first_token tokens)) 0) (read_pattern form.version (first_token tokens)) (read_later no_later (drop 1 tokens)) r l e in
    let ok = passed (is_bad r) r.has_two_values (not (has_letter r.key)) l.are_sound (list_all (suits_form_in_pattern form r.key) l.listed) l.are_numbers (ascend_on r.key 0 (map (λ b. b.0) l.listed)) none in
    let m = read_marks r (elements_of form.version (first_token tokens)) (found_marks form.version (first_token tokens) r parts.0) ok.0 in
    (sym (ap (ascend 0) m.2.values) ∙ values_ascend false 0 m.0 (m.2.twice ∙ ok.1), listed_ascend r.key 0 l.listed ok.2)
