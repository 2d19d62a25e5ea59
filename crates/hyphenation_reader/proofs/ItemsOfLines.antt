-- The items of lines, with one line more; and the tests of repetition by these items.
use Rattle.std.proofs.Common.{◌≡◌, ℕ, Bool, true, false, cond, ◌&&◌, ◌||◌, List, [], ◌∷◌, ◌++◌, map, Option, Some, None, is_some, refl, sym, ap, ◌∙◌}
use Rattle.std.specs.Option.{option_map, option_map_or}
use Rattle.std.specs.List.{filter_map, cons_option}
use Rattle.std.proofs.lemmas.List.{append-nil}
use Rattle.std.proofs.lemmas.List.Elements.{filter_map-append}
use Rattle.std.specs.Ordering.{nat_cmp, eq_by_cmp}
use Rattle.std.specs.Cmp.Lexicographic.{slice_cmp, nat_list_cmp_total, nat_list_eq_equiv, texts_ties}
use Rattle.std.specs.FinMap as finite
use Rattle.std.specs.FinMap.{find, get-from_entries, from_entries_push, nat_cmp-IsAntisymmetric, slice_cmp-IsAntisymmetric}
use Rattle.std.proofs.option.Match.{None-if_not_some}
use Rattle.hyphenation_breaks.specs.Break.{Break, Change}
use Rattle.hyphenation_breaks.specs.Dictionary.{TextMap}
use Rattle.hyphenation_grammar.specs.Lines.{is_same}
use Rattle.hyphenation_grammar.specs.Items.{is_pattern_line, is_exception_line, key_of_line, word_of_line, key_spelt, word_spelt, pattern_of_line, exception_of_line, entries_of_line, breaks_of_line}
use Rattle.hyphenation_grammar.specs.Judging.{is_repeated, repetition}
use Rattle.hyphenation_grammar.specs.Reading.{map_of_lines, spelling_as, entry_as, items_of_lines}
use Rattle.hyphenation_breaks.specs.declared.entry.Entry.{Entry}
use Rattle.hyphenation_grammar.specs.declared.form.Version.{Version}
use Rattle.hyphenation_grammar.specs.declared.Cause.{Cause}
use Rattle.hyphenation_grammar.specs.declared.Cause.TheVariants.{RepeatedPattern, RepeatedException}

-- a text stands among the entries where it is spelt in a line
standing : {X : Type 0} (spells : List ℕ → Option (List ℕ × X)) (earlier : List (List ℕ)) (q : List ℕ)
    → is_some (find (slice_cmp nat_cmp) q (filter_map spells earlier)) ≡ is_repeated (λ l. option_map (λ x. x.0) (spells l)) earlier q
standing spells [] q = refl
standing {X} spells (l ∷ ls) q =
    elim (spells l) as (λ o. is_some (find (slice_cmp nat_cmp) q (cons_option o (filter_map spells ls))) ≡ (option_map_or (λ other. is_same other q) (option_map (λ x. x.0) o) false || is_repeated (λ l. option_map (λ x. x.0) (spells l)) ls q)) [
      | None ↦ standing spells ls q
      | Some x ↦ either (eq_by_cmp (slice_cmp nat_cmp) q x.0) (is_same x.0 q) x.1 (find (slice_cmp nat_cmp) q (filter_map spells ls)) (is_repeated (λ l. option_map (λ x. x.0) (spells l)) ls q) (sym (texts_ties q x.0) ∙ nat_list_eq_equiv.symm q x.0) (standing spells ls q)
    ]
  where
    either : (a b : Bool) (v : X) (o : Option X) (t : Bool) → a ≡ b → is_some o ≡ t → is_some (cond a (Some v) o) ≡ (b || t)
    either true b v o t e f = ap (λ y. y || t) e
    either false b v o t e f = f ∙ ap (λ y. y || t) e

contains : {X : Type 0} (spells : List ℕ → Option (List ℕ × X)) (earlier : List (List ℕ)) (q : List ℕ)
    → is_some (finite.get (map_of_lines spells earlier) q) ≡ is_repeated (λ l. option_map (λ x. x.0) (spells l)) earlier q
contains spells earlier q = ap is_some (get-from_entries nat_list_cmp_total (filter_map spells earlier) q) ∙ standing spells earlier q

-- whether a map has the text of which something is said
abbrev pub has : {X : Type 0} → TextMap X → Option (List ℕ × X) → Bool
has m None = false
has m (Some x) = is_some (finite.get m x.0)

abbrev pub with_spelt : {X : Type 0} → TextMap X → Option (List ℕ × X) → TextMap X
with_spelt m None = m
with_spelt m (Some x) = finite.insert m x.0 x.1

-- a line more, which spells no text that stands
pub gathered-more : {X : Type 0} (spells : List ℕ → Option (List ℕ × X)) (earlier : List (List ℕ)) (line : List ℕ)
    → has (map_of_lines spells earlier) (spells line) ≡ false → map_of_lines spells (earlier ++ line ∷ []) ≡ with_spelt (map_of_lines spells earlier) (spells line)
gathered-more {X} spells earlier line new =
    ap (λ (es : List (List ℕ × X)). finite.from_entries {R = slice_cmp nat_cmp} es) (filter_map-append spells earlier (line ∷ []))
    ∙ elim (spells line) as (λ o. has (map_of_lines spells earlier) o ≡ false → finite.from_entries {R = slice_cmp nat_cmp} (filter_map spells earlier ++ cons_option o []) ≡ with_spelt (map_of_lines spells earlier) o) [
      | None ↦ λ h. ap (λ (es : List (List ℕ × X)). finite.from_entries {R = slice_cmp nat_cmp} es) (append-nil (filter_map spells earlier))
      | Some x ↦ λ h. from_entries_push nat_list_cmp_total (slice_cmp-IsAntisymmetric nat_cmp-IsAntisymmetric) (filter_map spells earlier) x.0 x.1
          (sym (get-from_entries nat_list_cmp_total (filter_map spells earlier) x.0) ∙ None-if_not_some _ h)
    ] new

-- the two tests of repetition, of what is said of a key and of a word
abbrev pub repeats : {X Y : Type 0} → TextMap X → TextMap Y → Option (List ℕ × X) → Option (List ℕ × Y) → Option Cause
repeats patterns exceptions p e = cond (has patterns p) (Some RepeatedPattern) (cond (has exceptions e) (Some RepeatedException) None)

pub neither : (p q : Bool) → None ≡ cond {A = Option Cause} p (Some RepeatedPattern) (cond q (Some RepeatedException) None) → (p ≡ false) × (q ≡ false)
neither true q h = absurd cc
neither false true h = absurd cc
neither false false h = (refl, refl)

module _ {C B : Type 0} (version : Version) (payload_of : Option Change → C) (listing_of : Break → B) where
  key_agrees : (l : List ℕ) → option_map (λ x. x.0) (spelling_as (entry_as payload_of) (pattern_of_line version) l) ≡ key_spelt version l
  key_agrees l = elim (is_pattern_line l) as (λ b. option_map (λ (x : List ℕ × List (Entry C)). x.0) (option_map {U = List ℕ × List (Entry C)} (λ x. (x.0, map (entry_as payload_of) x.1)) (cond {A = Option (List ℕ × List (Entry (Option Change)))} b (Some (key_of_line version l, entries_of_line version l)) None)) ≡ cond b (Some (key_of_line version l)) None) [ true ↦ refl | false ↦ refl ]

  word_agrees : (l : List ℕ) → option_map (λ x. x.0) (spelling_as listing_of exception_of_line l) ≡ word_spelt l
  word_agrees l = elim (is_exception_line l) as (λ b. option_map (λ (x : List ℕ × List B). x.0) (option_map {U = List ℕ × List B} (λ x. (x.0, map listing_of x.1)) (cond {A = Option (List ℕ × List Break)} b (Some (word_of_line l, breaks_of_line l)) None)) ≡ cond b (Some (word_of_line l)) None) [ true ↦ refl | false ↦ refl ]

  key_stands : (earlier : List (List ℕ)) (q : List ℕ) → is_some (finite.get (items_of_lines version payload_of listing_of earlier).patterns q) ≡ is_repeated (key_spelt version) earlier q
  key_stands earlier q = contains (spelling_as (entry_as payload_of) (pattern_of_line version)) earlier q ∙ ap (λ (s : List ℕ → Option (List ℕ)). is_repeated s earlier q) (λ k l. key_agrees l k)

  word_stands : (earlier : List (List ℕ)) (q : List ℕ) → is_some (finite.get (items_of_lines version payload_of listing_of earlier).exceptions q) ≡ is_repeated word_spelt earlier q
  word_stands earlier q = contains (spelling_as listing_of exception_of_line) earlier q ∙ ap (λ (s : List ℕ → Option (List ℕ)). is_repeated s earlier q) (λ k l. word_agrees l k)

  has_key : (earlier : List (List ℕ)) (line : List ℕ) → has (items_of_lines version payload_of listing_of earlier).patterns (spelling_as (entry_as payload_of) (pattern_of_line version) line) ≡ (is_pattern_line line && is_repeated (key_spelt version) earlier (key_of_line version line))
  has_key earlier line =
      elim (is_pattern_line line) as (λ b. has (items_of_lines version payload_of listing_of earlier).patterns (option_map {U = List ℕ × List (Entry C)} (λ x. (x.0, map (entry_as payload_of) x.1)) (cond {A = Option (List ℕ × List (Entry (Option Change)))} b (Some (key_of_line version line, entries_of_line version line)) None)) ≡ (b && is_repeated (key_spelt version) earlier (key_of_line version line))) [
        | true ↦ key_stands earlier (key_of_line version line)
        | false ↦ refl
      ]

  has_word : (earlier : List (List ℕ)) (line : List ℕ) → has (items_of_lines version payload_of listing_of earlier).exceptions (spelling_as listing_of exception_of_line line) ≡ (is_exception_line line && is_repeated word_spelt earlier (word_of_line line))
  has_word earlier line =
      elim (is_exception_line line) as (λ b. has (items_of_lines version payload_of listing_of earlier).exceptions (option_map {U = List ℕ × List B} (λ x. (x.0, map listing_of x.1)) (cond {A = Option (List ℕ × List Break)} b (Some (word_of_line line, breaks_of_line line)) None)) ≡ (b && is_repeated word_spelt earlier (word_of_line line))) [
        | true ↦ word_stands earlier (word_of_line line)
        | false ↦ refl
      ]

  -- the last two tests by what was items_of_lines are those by the lines
  pub repeats-spelt : (earlier : List (List ℕ)) (line : List ℕ)
      → repeats (items_of_lines version payload_of listing_of earlier).patterns (items_of_lines version payload_of listing_of earlier).exceptions (spelling_as (entry_as payload_of) (pattern_of_line version) line) (spelling_as listing_of exception_of_line line) ≡ repetition version earlier line
  repeats-spelt earlier line =
      ap (λ (b : Bool). cond b (Some RepeatedPattern) (cond (has (items_of_lines version payload_of listing_of earlier).exceptions (spelling_as listing_of exception_of_line line)) (Some RepeatedException) None)) (has_key earlier line)
      ∙ ap (λ (b : Bool). cond (is_pattern_line line && is_repeated (key_spelt version) earlier (key_of_line version line)) (Some RepeatedPattern) (cond b (Some RepeatedException) None)) (has_word earlier line)

  -- a line more, which repeats none
  pub new_key : (earlier : List (List ℕ)) (line : List ℕ) → None ≡ repetition version earlier line → has (map_of_lines (spelling_as (entry_as payload_of) (pattern_of_line version)) earlier) (spelling_as (entry_as payload_of) (pattern_of_line version) line) ≡ false
  new_key earlier line none = (neither (has (items_of_lines version payload_of listing_of earlier).patterns (spelling_as (entry_as payload_of) (pattern_of_line version) line)) (has (items_of_lines version payload_of listing_of earlier).exceptions (spelling_as listing_of exception_of_line line)) (none ∙ sym (repeats-spelt earlier line))).0

  pub new_word : (earlier : List (List ℕ)) (line : List ℕ) → None ≡ repetition version earlier line → has (map_of_lines (spelling_as listing_of exception_of_line) earlier) (spelling_as listing_of exception_of_line line) ≡ false
  new_word earlier line none = (neither (has (items_of_lines version payload_of listing_of earlier).patterns (spelling_as (entry_as payload_of) (pattern_of_line version) line)) (has (items_of_lines version payload_of listing_of earlier).exceptions (spelling_as listing_of exception_of_line line)) (none ∙ sym (repeats-spelt earlier line))).1

  pub spelt-more : (earlier : List (List ℕ)) (line : List ℕ) → None ≡ repetition version earlier line
      → items_of_lines version payload_of listing_of (earlier ++ line ∷ []) ≡ record { patterns = with_spelt (items_of_lines version payload_of listing_of earlier).patterns (spelling_as (entry_as payload_of) (pattern_of_line version) line); exceptions = with_spelt (items_of_lines version payload_of listing_of earlier).exceptions (spelling_as listing_of exception_of_line line) }
  spelt-more earlier line none = λ i. record {
    patterns = gathered-more (spelling_as (entry_as payload_of) (pattern_of_line version)) earlier line (new_key earlier line none) i;
    exceptions = gathered-more (spelling_as listing_of exception_of_line) earlier line (new_word earlier line none) i;
  }
