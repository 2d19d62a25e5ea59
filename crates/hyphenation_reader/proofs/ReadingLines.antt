-- One line after the other: the first fault among them, and the items that they spell.
use Rattle.std.proofs.Common.{◌≡◌, ◌==◌, ℕ, suc, ◌+◌, ◌<◌, ◌≤◌, false, List, [], ◌∷◌, ◌++◌, length, map, get_or, take, drop, Option, Some, None, is_some, refl, sym, ap, subst, ◌∙◌, arith, add-one}
use Rattle.std.specs.Option.{option_map, option_or}
use Rattle.std.specs.Prelude.{Result, Ok, Err, MatchResult}
use Rattle.std.specs.Result.{IsErr, IsErrAnd}
use Rattle.std.specs.String.{string_bytes}
use Rattle.std.proofs.Math.Seq.{take-suc, drop-cons, take-length}
use Rattle.std.proofs.lemmas.Bool.Decides.{nat_tests}
use Rattle.std.proofs.lemmas.List.{length-take-le, length-drop}
use Rattle.hyphenation_breaks.specs.Break.{Break, Change}
use Rattle.hyphenation_reader.specs.Private.Builder.{with_item, repeated_by}
use Rattle.hyphenation_grammar.specs.declared.form.Form.{Form}
use Rattle.hyphenation_grammar.specs.declared.form.Version.{Version}
use Rattle.hyphenation_grammar.specs.Items.{pattern_of_line, exception_of_line}
use Rattle.hyphenation_grammar.specs.Judging.{fault_after, own_cause, repetition, missing_head}
use Rattle.hyphenation_grammar.specs.Reading.{SpeltItems, items_of_lines, spelling_as, entry_as}
use Rattle.hyphenation_reader.specs.Refusals.{IsRefusal}
use Rattle.hyphenation_reader.specs.Private.LineAnswers.{IsItemOf}
use Rattle.hyphenation_breaks.specs.declared.entry.Entry.{Entry}
use Rattle.hyphenation_grammar.specs.declared.Cause.{Cause}
use Rattle.hyphenation_reader.specs.declared.items.Item.{Item}
use Rattle.hyphenation_reader.specs.declared.items.Item.TheVariants.{Nothing, Pattern, Exception}
use Rattle.hyphenation_reader.specs.declared.reader.Refusal.{Refusal}
use Rattle.hyphenation_reader.specs.declared.reader.Refusal.TheVariants.{Memory, Fault}
use Rattle.hyphenation_reader.proofs.ItemsOfLines.{with_spelt, repeats, repeats-spelt, spelt-more}

-- something was there before, if a look-up found it
pub had_by : {A X : Type 0} (f : A → X) (old : Option A) (at got : Option X) → option_map f old ≡ at → got ≡ at → is_some old ≡ is_some got
had_by f None at got e g = ap is_some (e ∙ sym g)
had_by f (Some x) at got e g = ap is_some (e ∙ sym g)

module _ {C B : Type 0} (version : Version) (payload_of : Option Change → C) (listing_of : Break → B) (earlier : List (List ℕ)) (line : List ℕ) where
  abbrev Keys : Type 0
  Keys = Option (List ℕ × List (Entry C))

  abbrev Words : Type 0
  Words = Option (List ℕ × List B)

  abbrev before : SpeltItems C B
  before = items_of_lines version payload_of listing_of earlier

  repeats_by : (p : Keys) (e : Words) → spelling_as (entry_as payload_of) (pattern_of_line version) line ≡ p → spelling_as listing_of exception_of_line line ≡ e → repeats before.patterns before.exceptions p e ≡ repetition version earlier line
  repeats_by p e hp he = (λ i. repeats before.patterns before.exceptions (sym hp i) (sym he i)) ∙ repeats-spelt version payload_of listing_of earlier line

  more_by : (p : Keys) (e : Words) → spelling_as (entry_as payload_of) (pattern_of_line version) line ≡ p → spelling_as listing_of exception_of_line line ≡ e → None ≡ repetition version earlier line
      → ◌≡◌ {A = SpeltItems C B} (record { patterns = with_spelt before.patterns p; exceptions = with_spelt before.exceptions e }) (items_of_lines version payload_of listing_of (earlier ++ line ∷ []))
  more_by p e hp he none = (λ i. record { patterns = with_spelt before.patterns (sym hp i); exceptions = with_spelt before.exceptions (sym he i) }) ∙ sym (spelt-more version payload_of listing_of earlier line none)

  no_key : pattern_of_line version line ≡ None → spelling_as (entry_as payload_of) (pattern_of_line version) line ≡ None
  no_key e = ap (option_map {U = List ℕ × List (Entry C)} (λ x. (x.0, map (entry_as payload_of) x.1))) e

  no_word : exception_of_line line ≡ None → spelling_as listing_of exception_of_line line ≡ None
  no_word e = ap (option_map {U = List ℕ × List B} (λ x. (x.0, map listing_of x.1))) e

  -- the last two tests, by what an item repeats
  item_repeats : (key : List ℕ) (entries : List (Entry C)) (item : Item B) → IsItemOf version payload_of listing_of key entries item line → repeated_by before key item ≡ repetition version earlier line
  item_repeats key entries Nothing says = repeats_by None None (no_key says.0) (no_word says.1)
  item_repeats key entries Pattern says = repeats_by (Some (key, entries)) None says.0 (no_word says.1)
  item_repeats key entries (Exception word listed) says = repeats_by None (Some (string_bytes word, listed.items)) (no_key says.0) says.1

  item_more : (key : List ℕ) (entries : List (Entry C)) (item : Item B) → IsItemOf version payload_of listing_of key entries item line → None ≡ repetition version earlier line → with_item before key entries item ≡ items_of_lines version payload_of listing_of (earlier ++ line ∷ [])
  item_more key entries Nothing says none = more_by None None (no_key says.0) (no_word says.1) none
  item_more key entries Pattern says none = more_by (Some (key, entries)) None says.0 (no_word says.1) none
  item_more key entries (Exception word listed) says none = more_by None (Some (string_bytes word, listed.items)) (no_key says.0) says.1 none

-- the first fault from a line on, by its two groups of tests
abbrev pub from_line : ℕ → Option Cause → Option Cause → Option (ℕ × Cause) → Option (ℕ × Cause)
from_line number own again rest = option_or (option_map (λ cause. (number, cause)) (option_or own again)) rest

-- the line at i, taken off the rest and put after the lines before
pub at_line : (form : Form) (texts : List (List ℕ)) (i : ℕ) (d : List ℕ) → i < length texts
    → fault_after form (take i texts) (drop i texts) ≡ from_line (i + 1) (own_cause form (i + 1) (get_or texts i d)) (repetition form.version (take i texts) (get_or texts i d)) (fault_after form (take (i + 1) texts) (drop (i + 1) texts))
at_line form texts i d lt =
    let line = get_or texts i d in
    let long : length (take i texts) ≡ i = length-take-le i texts (omega arith) in
    ap (fault_after form (take i texts)) (drop-cons texts i d lt)
    ∙ ap (λ (n : ℕ). from_line (n + 1) (own_cause form (n + 1) line) (repetition form.version (take i texts) line) (fault_after form (take i texts ++ line ∷ []) (drop (suc i) texts))) long
    ∙ ap (λ (ls : List (List ℕ)). from_line (i + 1) (own_cause form (i + 1) line) (repetition form.version (take i texts) line) (fault_after form ls (drop (suc i) texts))) (sym (take-suc texts i d lt))
    ∙ ap (λ (j : ℕ). from_line (i + 1) (own_cause form (i + 1) line) (repetition form.version (take i texts) line) (fault_after form (take j texts) (drop j texts))) (sym (add-one i))

-- the line at hand, and those after it
module _ {C B : Type 0} (payload_of : Option Change → C) (listing_of : Break → B) (form : Form) (texts : List (List ℕ)) (i : ℕ) (line : List ℕ) (more : List (List ℕ)) (at : drop i texts ≡ line ∷ more) where
  in_texts : i < length texts
  in_texts = omega (arith, length-drop i texts, ap length at)

  both : get_or texts i [] ∷ drop (suc i) texts ≡ line ∷ more
  both = sym (drop-cons texts i [] in_texts) ∙ at

  same_line : get_or texts i [] ≡ line
  same_line = ap (λ (ls : List (List ℕ)). get_or ls 0 []) both

  pub rest_is : drop (i + 1) texts ≡ more
  rest_is = ap (λ (j : ℕ). drop j texts) (add-one i) ∙ ap (λ (ls : List (List ℕ)). drop 1 ls) both

  pub reaches : i + 1 ≤ length texts
  reaches = omega (arith, in_texts)

  at_reference : fault_after form (take i texts) (drop i texts)
      ≡ from_line (i + 1) (own_cause form (i + 1) line) (repetition form.version (take i texts) line) (fault_after form (take (i + 1) texts) (drop (i + 1) texts))
  at_reference =
      at_line form texts i [] in_texts
      ∙ ap (λ (l : List ℕ). from_line (i + 1) (own_cause form (i + 1) l) (repetition form.version (take i texts) l) (fault_after form (take (i + 1) texts) (drop (i + 1) texts))) same_line

  -- the line fails a test by itself
  pub own-fault : (refusal : Refusal) (all : Option (ℕ × Cause)) → IsRefusal refusal (option_map (λ cause. (i + 1, cause)) (own_cause form (i + 1) line))
      → fault_after form (take i texts) (drop i texts) ≡ all → IsRefusal refusal all
  own-fault Memory all own before = tt
  own-fault (Fault number cause) all own before = sym before ∙ at_reference ∙ first (own_cause form (i + 1) line) (repetition form.version (take i texts) line) (fault_after form (take (i + 1) texts) (drop (i + 1) texts)) own
    where
      first : (o again : Option Cause) (rest : Option (ℕ × Cause)) → option_map {U = ℕ × Cause} (λ c. (i + 1, c)) o ≡ Some (number, cause) → from_line (i + 1) o again rest ≡ Some (number, cause)
      first None again rest h = absurd cc
      first (Some c) again rest h = h

  module _ (s : SpeltItems C B) (is : s ≡ items_of_lines form.version payload_of listing_of (take i texts)) (key : List ℕ) (entries : List (Entry C)) (item : Item B) (says : IsItemOf form.version payload_of listing_of key entries item line) (own : own_cause form (i + 1) line ≡ None) where
    again : repeated_by s key item ≡ repetition form.version (take i texts) line
    again = ap (λ (x : SpeltItems C B). repeated_by x key item) is ∙ item_repeats form.version payload_of listing_of (take i texts) line key entries item says

    -- it repeats another
    pub repeated-fault : (cause : Cause) (all : Option (ℕ × Cause)) → Some cause ≡ repeated_by s key item → fault_after form (take i texts) (drop i texts) ≡ all → all ≡ Some (i + 1, cause)
    repeated-fault cause all repeated before =
        sym before ∙ at_reference
        ∙ ap (λ (o : Option Cause). from_line (i + 1) o (repetition form.version (take i texts) line) (fault_after form (take (i + 1) texts) (drop (i + 1) texts))) own
        ∙ ap (λ (o : Option Cause). from_line (i + 1) None o (fault_after form (take (i + 1) texts) (drop (i + 1) texts))) (sym (repeated ∙ again))

    -- it fails none
    pub goes-on : (all : Option (ℕ × Cause)) → None ≡ repeated_by s key item → fault_after form (take i texts) (drop i texts) ≡ all → fault_after form (take (i + 1) texts) (drop (i + 1) texts) ≡ all
    goes-on all none before =
        ap (λ (o : Option Cause). from_line (i + 1) None o (fault_after form (take (i + 1) texts) (drop (i + 1) texts))) (none ∙ again)
        ∙ ap (λ (o : Option Cause). from_line (i + 1) o (repetition form.version (take i texts) line) (fault_after form (take (i + 1) texts) (drop (i + 1) texts))) (sym own)
        ∙ sym at_reference ∙ before

    pub spells-more : (next : SpeltItems C B) → None ≡ repeated_by s key item → next ≡ with_item s key entries item → next ≡ items_of_lines form.version payload_of listing_of (take (i + 1) texts)
    spells-more next none added =
        added ∙ ap (λ (x : SpeltItems C B). with_item x key entries item) is
        ∙ item_more form.version payload_of listing_of (take i texts) line key entries item says (none ∙ again)
        ∙ ap (λ (l : List ℕ). items_of_lines form.version payload_of listing_of (take i texts ++ l ∷ [])) (sym same_line)
        ∙ ap (items_of_lines form.version payload_of listing_of) (sym (take-suc texts i [] in_texts)) ∙ ap (λ (j : ℕ). items_of_lines form.version payload_of listing_of (take j texts)) (sym (add-one i))

-- after the last line
pub ended : (texts : List (List ℕ)) (i : ℕ) → i ≤ length texts → drop i texts ≡ [] → take i texts ≡ texts
ended texts i le none =
    let is : i ≡ length texts = omega (arith, length-drop i texts, ap length none) in
    ap (λ (k : ℕ). take k texts) is ∙ take-length texts

pub ended-fault : (form : Form) (texts : List (List ℕ)) (i : ℕ) → 2 < i → i ≤ length texts → drop i texts ≡ [] → fault_after form (take i texts) (drop i texts) ≡ None
ended-fault form texts i long le none =
    ap (fault_after form (take i texts)) none
    ∙ ap (λ (k : ℕ). option_map {U = ℕ × Cause} (λ cause. (k + 1, cause)) (missing_head k)) (length-take-le i texts le)
    ∙ ap (option_map {U = ℕ × Cause} (λ cause. (i + 1, cause))) (no_missing i long)
  where
    no_missing : (n : ℕ) → 2 < n → missing_head n ≡ None
    no_missing n h = rw (not_it n 0 (omega arith), not_it n 1 (omega arith), not_it n 2 (omega arith)) refl
      where
        not_it : (n k : ℕ) → k < n → (n == k) ≡ false
        not_it n k h = grind (arith, nat_tests)

pub no_cause : (o : Option Cause) → ((x : Cause) → o ≡ Some x → ⊥) → None ≡ o
no_cause None h = refl
no_cause (Some x) h = absurd (h x refl)

pub refused : {T : Type 0} (r : Result T Refusal) (refusal : Refusal) (P : T → Type 0) (Q : Refusal → Type 0) → IsErr r × IsErrAnd r (λ e. e ≡ refusal) → Q refusal → MatchResult r P Q
refused (Ok x) refusal P Q h q = absurd cc
refused (Err e) refusal P Q h q = subst Q (sym h.1) q
