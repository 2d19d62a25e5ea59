-- An accepted text gives a dictionary with its invariant: head lines, patterns and exceptions.
use Rattle.std.proofs.Common.{◌≡◌, ℕ, ◌+◌, ◌<◌, ◌≤◌, Bool, true, false, cond, ◌&&◌, ◌==◌, nat_le, List, [], ◌∷◌, ◌++◌, length, map, Option, Some, None, is_some, unwrap_or, refl, sym, ap, subst, ◌∙◌, arith, inl, inr}
use Rattle.std.specs.Prelude.{◌⊎◌, is_none, option_and_then, slice_index_or, codes}
use Rattle.std.specs.Option.{option_map}
use Rattle.std.specs.List.{list_all, slice_split}
use Rattle.std.proofs.lemmas.Bool.{and_from, and_parts}
use Rattle.std.proofs.lemmas.Bool.Decides.{nat_tests}
use Rattle.hyphenation_breaks.specs.Break.{Break, Change, ascend_on, plain_break}
use Rattle.hyphenation_breaks.specs.Dictionary.{Contents}
use Rattle.hyphenation_grammar.specs.declared.form.Form.{Form}
use Rattle.hyphenation_grammar.specs.declared.form.Version.{Version}
use Rattle.hyphenation_breaks.specs.Invariant.{fits_usize, is_value, stays_within, lists_within, are_entries, are_listed, IsPattern, IsException, IsDictionary}
use Rattle.hyphenation_breaks.specs.Language.{IsCode, is_code}
use Rattle.hyphenation_grammar.specs.Lines.{strip_prefix, language_of, minima_of, number_to_255, two_minima, is_number_to_255, is_number, number}
use Rattle.hyphenation_grammar.specs.Items.{is_pattern_line, is_exception_line, key_of_line, word_of_line, breaks_of_line, entries_of_line, pattern_of_line, exception_of_line}
use Rattle.hyphenation_grammar.specs.Judging.{fault_after, own_cause, repetition}
use Rattle.hyphenation_grammar.specs.Reading.{spelling_as, entry_as, SpeltItems, items_of_lines, contents_in}
use Rattle.hyphenation_breaks.specs.declared.entry.Entry.{Entry}
use Rattle.std.proofs.lemmas.Simd.{map-map}
use Rattle.hyphenation_breaks.specs.Laws.{is_entry}
use Rattle.hyphenation_reader.specs.Laws.{SpeltIsSound}
use Rattle.hyphenation_reader.proofs.SomeLine.{SomeLine}
use Rattle.hyphenation_reader.proofs.ReadingOrder.{no_fault, patterns-told, exceptions-told}
use Rattle.hyphenation_reader.proofs.LineInvariant.{passes}
use Rattle.std.specs.Cmp.{first_so, second_so}

-- each line fails no test of its own
own-none : (form : Form) (P : List ℕ → Type 0) (earlier lines : List (List ℕ)) → fault_after form earlier lines ≡ None → SomeLine P lines → (n : ℕ) × (l : List ℕ) × P l × (own_cause form n l ≡ None)
own-none form P earlier [] e h = absurd h
own-none form P earlier (line ∷ lines) e (inl h) = (length earlier + 1, line, h, (no_fault (own_cause form (length earlier + 1) line) (repetition form.version earlier line) (length earlier + 1) (fault_after form (earlier ++ line ∷ []) lines) e).0)
own-none form P earlier (line ∷ lines) e (inr h) = own-none form P (earlier ++ line ∷ []) lines (no_fault (own_cause form (length earlier + 1) line) (repetition form.version earlier line) (length earlier + 1) (fault_after form (earlier ++ line ∷ []) lines) e).2 h

-- the three head lines are there
pub record HasHead (form : Form) (lines : List (List ℕ)) : Type 0 where
  pub long : 2 < length lines
  pub language : own_cause form 2 (slice_index_or lines 1 []) ≡ None
  pub minima : own_cause form 3 (slice_index_or lines 2 []) ≡ None

pub has-head : (form : Form) (lines : List (List ℕ)) → fault_after form [] lines ≡ None → HasHead form lines
has-head form [] e = absurd cc
has-head form (a ∷ []) e =
    let x = no_fault (own_cause form 1 a) (repetition form.version [] a) 1 (fault_after form (a ∷ []) []) e in
    absurd cc
has-head form (a ∷ b ∷ []) e =
    let x = no_fault (own_cause form 1 a) (repetition form.version [] a) 1 (fault_after form (a ∷ []) (b ∷ [])) e in
    let y = no_fault (own_cause form 2 b) (repetition form.version (a ∷ []) b) 2 (fault_after form (a ∷ b ∷ []) []) x.2 in
    absurd cc
has-head form (a ∷ b ∷ c ∷ rest) e =
    let x = no_fault (own_cause form 1 a) (repetition form.version [] a) 1 (fault_after form (a ∷ []) (b ∷ c ∷ rest)) e in
    let y = no_fault (own_cause form 2 b) (repetition form.version (a ∷ []) b) 2 (fault_after form (a ∷ b ∷ []) (c ∷ rest)) x.2 in
    let z = no_fault (own_cause form 3 c) (repetition form.version (a ∷ b ∷ []) c) 3 (fault_after form (a ∷ b ∷ c ∷ []) rest) y.2 in
    record { long = omega arith; language = y.0; minima = z.0 }

some_from : {X : Type 0} (o : Option X) → is_none o ≡ false → is_some o ≡ true
some_from None e = absurd cc
some_from (Some x) e = refl

pub has-language : (form : Form) (line : List ℕ) → own_cause form 2 line ≡ None → is_some (language_of line) ≡ true
has-language form line e = some_from (language_of line) (passes form 2 line e).language

pub has-minima : (form : Form) (line : List ℕ) → own_cause form 3 line ≡ None → is_some (minima_of line) ≡ true
has-minima form line e = some_from (minima_of line) (passes form 3 line e).minima

language_code : (line : List ℕ) → is_some (language_of line) ≡ true → IsCode (unwrap_or (language_of line) [])
language_code line e = by (strip_prefix (codes "language ") line) e
  where
    checked : (code : List ℕ) (t : Bool) → is_code code ≡ t → is_some (cond {A = Option (List ℕ)} t (Some code) None) ≡ true → IsCode (unwrap_or (cond t (Some code) None) [])
    checked code true is h = is
    checked code false is h = absurd cc

    by : (o : Option (List ℕ)) → is_some (option_and_then (λ code. cond {A = Option (List ℕ)} (is_code code) (Some code) None) o) ≡ true → IsCode (unwrap_or (option_and_then (λ code. cond {A = Option (List ℕ)} (is_code code) (Some code) None) o) [])
    by None h = absurd cc
    by (Some code) h = checked code (is_code code) refl h

abbrev AreSmall : Option (ℕ × ℕ) → Type 0
AreSmall None = Unit {0}
AreSmall (Some minima) = (minima.0 ≤ 255) × (minima.1 ≤ 255)

small : (text : List ℕ) (n : ℕ) → number_to_255 text ≡ Some n → n ≤ 255
small text n e = by (is_number_to_255 text) refl e
  where
    below : is_number_to_255 text ≡ true → number text ≤ 255
    below h = let le : nat_le (number text) 255 ≡ true = second_so (is_number text) (nat_le (number text) 255) h in grind (arith, nat_tests)

    by : (t : Bool) → is_number_to_255 text ≡ t → cond {A = Option ℕ} t (Some (number text)) None ≡ Some n → n ≤ 255
    by true is h = let same : number text ≡ n = cc in subst (λ (x : ℕ). x ≤ 255) same (below is)
    by false is h = absurd cc

two_are_small : (parts : List (List ℕ)) → AreSmall (two_minima parts)
two_are_small parts = by (length parts == 2) (number_to_255 (slice_index_or parts 0 [])) (number_to_255 (slice_index_or parts 1 [])) refl refl
  where
    by : (t : Bool) (x y : Option ℕ) → number_to_255 (slice_index_or parts 0 []) ≡ x → number_to_255 (slice_index_or parts 1 []) ≡ y
        → AreSmall (cond {A = Option (ℕ × ℕ)} t (option_and_then (λ left. option_map {U = ℕ × ℕ} (λ right. (left, right)) y) x) None)
    by false x y ex ey = tt
    by true None y ex ey = tt
    by true (Some left) None ex ey = tt
    by true (Some left) (Some right) ex ey = (small (slice_index_or parts 0 []) left ex, small (slice_index_or parts 1 []) right ey)

minima_small : (line : List ℕ) → ((unwrap_or (minima_of line) (0, 0)).0 ≤ 255) × ((unwrap_or (minima_of line) (0, 0)).1 ≤ 255)
minima_small line = by (strip_prefix (codes "minima ") line)
  where
    kept : (o : Option (ℕ × ℕ)) → AreSmall o → ((unwrap_or o (0, 0)).0 ≤ 255) × ((unwrap_or o (0, 0)).1 ≤ 255)
    kept None h = (omega arith, omega arith)
    kept (Some minima) h = h

    by : (o : Option (List ℕ)) → ((unwrap_or (option_and_then (λ rest. two_minima (slice_split (λ b. b == 32) rest)) o) (0, 0)).0 ≤ 255) × ((unwrap_or (option_and_then (λ rest. two_minima (slice_split (λ b. b == 32) rest)) o) (0, 0)).1 ≤ 255)
    by None = (omega arith, omega arith)
    by (Some rest) = kept (two_minima (slice_split (λ b. b == 32) rest)) (two_are_small (slice_split (λ b. b == 32) rest))

told_from : {X Y : Type 0} (say : X → Y) (spells : List ℕ → Option (List ℕ × List X)) (line k : List ℕ) (ys : List Y) → spelling_as say spells line ≡ Some (k, ys)
    → (xs : List X) × (spells line ≡ Some (k, xs)) × (map say xs ≡ ys)
told_from {X} {Y} say spells line k ys e = by (spells line) refl e
  where
    by : (o : Option (List ℕ × List X)) → spells line ≡ o → option_map {U = List ℕ × List Y} (λ x. (x.0, map say x.1)) o ≡ Some (k, ys) → (xs : List X) × (spells line ≡ Some (k, xs)) × (map say xs ≡ ys)
    by None is h = absurd cc
    by (Some x) is h =
        let both : ◌≡◌ {A = List ℕ × List Y} (x.0, map say x.1) (k, ys) = cc in
        (x.1, is ∙ (λ i. Some ((both i).0, x.1)), λ i. (both i).1)

spelt_from : {X : Type 0} (b : Bool) (k : List ℕ) (v : X) (q : List ℕ) (w : X) → cond {A = Option (List ℕ × X)} b (Some (k, v)) None ≡ Some (q, w) → (b ≡ true) × (k ≡ q) × (v ≡ w)
spelt_from {X} true k v q w e = let both : ◌≡◌ {A = List ℕ × X} (k, v) (q, w) = cc in (refl, λ i. (both i).0, λ i. (both i).1)
spelt_from false k v q w e = absurd cc

-- however a kind of dictionary holds changes and listed breaks, so long as what it holds keeps within
module _ (sound : SpeltIsSound) {C B : Type 0} (payload_of : Option Change → C) (listing_of : Break → B) (change_of : C → Option Change) (break_of : B → Break)
    (kept_change : (c : Option Change) → (change_of (payload_of c) ≡ c) ⊎ (change_of (payload_of c) ≡ None)) (kept_break : (b : Break) → (break_of (listing_of b) ≡ b) ⊎ (break_of (listing_of b) ≡ plain_break b.place)) where
  carried : (text : List ℕ) (place : ℕ) (c : Option Change) → stays_within text place c ≡ true → stays_within text place (change_of (payload_of c)) ≡ true
  carried text place c h = elim (kept_change c) [
    | inl same ↦ subst (λ (x : Option Change). stays_within text place x ≡ true) (sym same) h
    | inr none ↦ subst (λ (x : Option Change). stays_within text place x ≡ true) (sym none) refl
  ]

  placed : (b : Break) → (break_of (listing_of b)).place ≡ b.place
  placed b = elim (kept_break b) [ inl same ↦ ap (λ (x : Break). x.place) same | inr alone ↦ ap (λ (x : Break). x.place) alone ]

  both_on : (a : Bool) → a ≡ true → (a && true) ≡ true
  both_on a e = rw e refl

  meant : (text : List ℕ) (place : ℕ) (b : Break) → lists_within text place b.change ≡ true → lists_within text place (break_of (listing_of b)).change ≡ true
  meant text place b h = elim (kept_break b) [
    | inl same ↦ subst (λ (x : Break). lists_within text place x.change ≡ true) (sym same) h
    | inr alone ↦ subst (λ (x : Break). lists_within text place x.change ≡ true) (sym alone) (both_on (fits_usize place) (first_so (fits_usize place) (stays_within text place b.change) h))
  ]

  each_held : (text : List ℕ) (es : List (Entry (Option Change))) → list_all (is_entry (λ c. c) text) es ≡ true → list_all (is_entry change_of text) (map (entry_as payload_of) es) ≡ true
  each_held text [] h = refl
  each_held text (e ∷ es) h =
      let parts = and_parts (is_entry (λ c. c) text e) (list_all (is_entry (λ c. c) text) es) h in
      let here = and_parts (is_value e.value) (stays_within text e.place e.change) parts.0 in
      and_from (is_entry change_of text (entry_as payload_of e)) (list_all (is_entry change_of text) (map (entry_as payload_of) es))
      (and_from (is_value e.value) (stays_within text e.place (change_of (payload_of e.change))) here.0 (carried text e.place e.change here.1)) (each_held text es parts.1)

  entries_held : (text : List ℕ) (es : List (Entry (Option Change))) → are_entries (λ c. c) text es ≡ true → are_entries change_of text (map (entry_as payload_of) es) ≡ true
  entries_held text es h =
      let parts = and_parts (ascend_on text 0 (map (λ e. e.place) es)) (list_all (is_entry (λ c. c) text) es) h in
      let places : map (λ e. e.place) (map (entry_as payload_of) es) ≡ map (λ e. e.place) es = map-map (λ e. e.place) (entry_as payload_of) es in
      and_from (ascend_on text 0 (map (λ e. e.place) (map (entry_as payload_of) es))) (list_all (is_entry change_of text) (map (entry_as payload_of) es))
      (ap (ascend_on text 0) places ∙ parts.0) (each_held text es parts.1)

  places_held : (bs : List Break) → map (λ b. (break_of b).place) (map listing_of bs) ≡ map (λ b. b.place) bs
  places_held [] = refl
  places_held (b ∷ bs) = λ i. placed b i ∷ places_held bs i

  changes_held : (text : List ℕ) (bs : List Break) → list_all (λ b. lists_within text b.place b.change) bs ≡ true → list_all (λ b. lists_within text (break_of b).place (break_of b).change) (map listing_of bs) ≡ true
  changes_held text [] h = refl
  changes_held text (b ∷ bs) h =
      let parts = and_parts (lists_within text b.place b.change) (list_all (λ b. lists_within text b.place b.change) bs) h in
      and_from (lists_within text (break_of (listing_of b)).place (break_of (listing_of b)).change) (list_all (λ b. lists_within text (break_of b).place (break_of b).change) (map listing_of bs))
      (subst (λ (place : ℕ). lists_within text place (break_of (listing_of b)).change ≡ true) (sym (placed b)) (meant text b.place b parts.0)) (changes_held text bs parts.1)

  listed_held : (text : List ℕ) (bs : List Break) → are_listed (λ b. b) text bs ≡ true → are_listed break_of text (map listing_of bs) ≡ true
  listed_held text bs h =
      let parts = and_parts (ascend_on text 0 (map (λ b. b.place) bs)) (list_all (λ b. lists_within text b.place b.change) bs) h in
      and_from (ascend_on text 0 (map (λ b. (break_of b).place) (map listing_of bs))) (list_all (λ b. lists_within text (break_of b).place (break_of b).change) (map listing_of bs))
      (ap (ascend_on text 0) (places_held bs) ∙ parts.0) (changes_held text bs parts.1)

  pattern_held : (form : Form) (n : ℕ) (line k : List ℕ) (es : List (Entry C)) → own_cause form n line ≡ None → spelling_as (entry_as payload_of) (pattern_of_line form.version) line ≡ Some (k, es) → IsPattern change_of k es
  pattern_held form n line k es own e =
      let t = told_from (entry_as payload_of) (pattern_of_line form.version) line k es e in
      let s = spelt_from (is_pattern_line line) (key_of_line form.version line) (entries_of_line form.version line) k t.0 t.1 in
      let kept = (sound form n line own).0 s.0 in
      subst (λ (q : List ℕ). IsPattern change_of q es) s.1
      (record {
        utf8 = kept.utf8;
        letter = kept.letter;
        ascend = subst (λ (xs : List (Entry C)). are_entries change_of (key_of_line form.version line) xs ≡ true) (ap (map (entry_as payload_of)) s.2 ∙ t.2) (entries_held (key_of_line form.version line) (entries_of_line form.version line) kept.ascend);
      })

  pub exception_held : (form : Form) (n : ℕ) (line w : List ℕ) (bs : List B) → own_cause form n line ≡ None → spelling_as listing_of exception_of_line line ≡ Some (w, bs) → IsException break_of w bs
  exception_held form n line w bs own e =
      let t = told_from listing_of exception_of_line line w bs e in
      let s = spelt_from (is_exception_line line) (word_of_line line) (breaks_of_line line) w t.0 t.1 in
      let kept = (sound form n line own).1 s.0 in
      subst (λ (q : List ℕ). IsException break_of q bs) s.1
      (record {
        utf8 = kept.utf8;
        ascend = subst (λ (xs : List B). are_listed break_of (word_of_line line) xs ≡ true) (ap (map listing_of) s.2 ∙ t.2) (listed_held (word_of_line line) (breaks_of_line line) kept.ascend);
      })

  pub contents-kept : (form : Form) (lines : List (List ℕ)) → fault_after form [] lines ≡ None → IsDictionary change_of break_of (contents_in form.version payload_of listing_of lines)
  contents-kept form lines e =
      let head = has-head form lines e in
      let small = minima_small (slice_index_or lines 2 []) in
      record {
        code = language_code (slice_index_or lines 1 []) (has-language form (slice_index_or lines 1 []) head.language);
        left = small.0;
        right = small.1;
        patterns = λ k es got.
            let own = own-none form (λ l. spelling_as (entry_as payload_of) (pattern_of_line form.version) l ≡ Some (k, es)) [] lines e ((patterns-told payload_of listing_of form lines e k es).0 got) in
            pattern_held form own.0 own.1 k es own.3 own.2;
        exceptions = λ w bs got.
            let own = own-none form (λ l. spelling_as listing_of exception_of_line l ≡ Some (w, bs)) [] lines e ((exceptions-told payload_of listing_of form lines e w bs).0 got) in
            exception_held form own.0 own.1 w bs own.3 own.2;
      }

-- the parts of the dictionary
pub parts-make : {C B : Type 0} (version : Version) (payload_of : Option Change → C) (listing_of : Break → B) (lines : List (List ℕ)) (language : List ℕ) (minima : ℕ × ℕ) (s : SpeltItems C B)
    → language_of (slice_index_or lines 1 []) ≡ Some language → minima_of (slice_index_or lines 2 []) ≡ Some minima → s ≡ items_of_lines version payload_of listing_of lines
    → ◌≡◌ {A = Contents C B} (record { language = language; left = minima.0; right = minima.1; patterns = s.patterns; exceptions = s.exceptions }) (contents_in version payload_of listing_of lines)
parts-make version payload_of listing_of lines language minima s hl hm hs = λ i. record {
  language = unwrap_or (sym hl i) [];
  left = (unwrap_or (sym hm i) (0, 0)).0;
  right = (unwrap_or (sym hm i) (0, 0)).1;
  patterns = (hs i).patterns;
  exceptions = (hs i).exceptions;
}
