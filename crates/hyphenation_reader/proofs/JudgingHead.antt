-- The head lines of a text, judged before the others: they spell no item.
use Rattle.std.proofs.Common.{◌≡◌, ◌∙◌, ℕ, ◌+◌, Bool, true, false, cond, not, ◌&&◌, ◌||◌, ◌==◌, eqb, List, [], ◌∷◌, ◌++◌, length, take, drop, map, Option, Some, None, is_some, refl, sym, ap, subst, arith}
use Rattle.std.specs.Prelude.{codes, option_and_then}
use Rattle.std.specs.Option.{option_map, option_or}
use Rattle.std.specs.List.{slice_split, filter_map, cons_option}
use Rattle.std.specs.FinMap as finite
use Rattle.std.proofs.lemmas.Bool.Decides.{nat_tests}
use Rattle.hyphenation_breaks.specs.Break.{Break, Change}
use Rattle.hyphenation_reader.specs.Private.Builder.{HasHead, spell_nothing}
use Rattle.hyphenation_grammar.specs.Items.{is_pattern_line, is_exception_line, tokens_of, pattern_of_line, exception_of_line, key_of_line, entries_of_line, word_of_line, breaks_of_line, key_spelt, word_spelt}
use Rattle.hyphenation_grammar.specs.Judging.{is_item_line, fails, own_cause, repetition, is_repeated, fault_after}
use Rattle.hyphenation_reader.specs.Private.Judging.{cause_before_token}
use Rattle.hyphenation_breaks.specs.Language.{is_code}
use Rattle.hyphenation_grammar.specs.Form.{head_line, head_of}
use Rattle.hyphenation_grammar.specs.Lines.{is_same, starts_with, strip_prefix, language_of, minima_of, two_minima}
use Rattle.hyphenation_grammar.specs.Reading.{items_of_lines, spelling_as, entry_as}
use Rattle.hyphenation_reader.specs.Refusals.{IsRefusal}
use Rattle.hyphenation_reader.specs.Private.Refusals.{at_number}
use Rattle.hyphenation_reader.specs.Private.LineAnswers.{item_cause}
use Rattle.hyphenation_grammar.specs.declared.Cause.{Cause}
use Rattle.hyphenation_grammar.specs.declared.Cause.TheVariants.{NotUtf8, Header, Language, Minima, UnknownLine, RepeatedPattern, RepeatedException}
use Rattle.hyphenation_grammar.specs.declared.form.Form.{Form}
use Rattle.hyphenation_grammar.specs.declared.form.Version.{Version}
use Rattle.hyphenation_grammar.specs.declared.form.Version.TheVariants.{First, Second}
use Rattle.hyphenation_grammar.specs.declared.form.Kind.{Kind}
use Rattle.hyphenation_grammar.specs.declared.form.Kind.TheVariants.{Standard, Extended}
use Rattle.hyphenation_breaks.specs.declared.entry.Entry.{Entry}
use Rattle.hyphenation_reader.specs.declared.reader.Refusal.{Refusal}
use Rattle.hyphenation_reader.specs.declared.reader.Refusal.TheVariants.{Memory, Fault}
use Rattle.hyphenation_reader.proofs.LineCauses.{causes, by_tokens, front, off}
use Rattle.hyphenation_reader.proofs.JudgingLine.{halves}
use Rattle.hyphenation_reader.proofs.LineInvariant.{found_none}
use Rattle.std.specs.Cmp.{first_so, second_so}
use Rattle.std.specs.Cmp.Lexicographic.{bytes_decides}
use Rattle.std.proofs.lemmas.Bool.{or_parts, not-true}

-- a line of neither sort
pub record SpellsNothing (line : List ℕ) : Type 0 where
  pub pattern : is_pattern_line line ≡ false
  pub exception : is_exception_line line ≡ false

other : (b c x : ℕ) → eqb b c ≡ true → eqb c x ≡ false → eqb b x ≡ false
other b c x e f = grind (arith, nat_tests)

apart : (c : ℕ) (start line : List ℕ) (x : ℕ) → starts_with (c ∷ start) line ≡ true → eqb c x ≡ false → starts_with (x ∷ 32 ∷ []) line ≡ false
apart c start [] x e f = absurd cc
apart c start (b ∷ line) x e f =
    off (eqb b x) (is_same (take 1 line) (32 ∷ [])) (drop 1 line) (other b c x (front (eqb b c) (is_same (take (length start) line) start) (drop (length start) line) e) f)

begun : (c : ℕ) (start line : List ℕ) → starts_with (c ∷ start) line ≡ true → eqb c 112 ≡ false → eqb c 101 ≡ false → SpellsNothing line
begun c start line e f g = record { pattern = apart c start line 112 e f; exception = apart c start line 101 e g }

-- it fails no test but the first five, repeats nothing and spells nothing
module _ (line : List ℕ) (spells_nothing : SpellsNothing line) where
  no_item : (form : Form) → item_cause form line ≡ None
  no_item form = causes form line ∙ (λ i. by_tokens form (spells_nothing.pattern i) (spells_nothing.exception i) (tokens_of line))

  own : (form : Form) (number : ℕ) → cause_before_token form number line ≡ None → own_cause form number line ≡ None
  own form number e = halves form number line ∙ ap (λ (o : Option Cause). option_or o (item_cause form line)) e ∙ no_item form

  new : (version : Version) (earlier : List (List ℕ)) → repetition version earlier line ≡ None
  new version earlier = λ i. cond (spells_nothing.pattern i && is_repeated (key_spelt version) earlier (key_of_line version line)) (Some RepeatedPattern) (cond (spells_nothing.exception i && is_repeated word_spelt earlier (word_of_line line)) (Some RepeatedException) None)

  spells_no_key : (version : Version) → pattern_of_line version line ≡ None
  spells_no_key version = ap (λ (b : Bool). cond b (Some (key_of_line version line, entries_of_line version line)) None) spells_nothing.pattern

  spells_no_word : exception_of_line line ≡ None
  spells_no_word = ap (λ (b : Bool). cond b (Some (word_of_line line, breaks_of_line line)) None) spells_nothing.exception

  pub on : (form : Form) (earlier rest : List (List ℕ)) → cause_before_token form (length earlier + 1) line ≡ None → fault_after form earlier (line ∷ rest) ≡ fault_after form (earlier ++ line ∷ []) rest
  on form earlier rest e =
      (λ i. option_or (option_map {U = ℕ × Cause} (λ cause. (length earlier + 1, cause)) (option_or (own form (length earlier + 1) e i) (new form.version earlier i))) (fault_after form (earlier ++ line ∷ []) rest))

-- each of the three is so
first-spells_nothing : (form : Form) (line : List ℕ) → cause_before_token form 1 line ≡ None → SpellsNothing line
first-spells_nothing form line e =
    let utf8 = found_none (fails form 1 line) NotUtf8 (Header ∷ Language ∷ Minima ∷ UnknownLine ∷ []) e in
    let here = found_none (fails form 1 line) Header (Language ∷ Minima ∷ UnknownLine ∷ []) utf8.1 in
    subst SpellsNothing (sym ((bytes_decides line (head_line form)).0 (on_from_not (is_same line (head_line form)) here.0))) (by form.kind form.version)
  where
    on_from_not : (b : Bool) → not b ≡ false → b ≡ true
    on_from_not true h = refl
    on_from_not false h = absurd cc

    by : (kind : Kind) (version : Version) → SpellsNothing (head_of kind version)
    by Standard First = record { pattern = refl; exception = refl }
    by Standard Second = record { pattern = refl; exception = refl }
    by Extended First = record { pattern = refl; exception = refl }
    by Extended Second = record { pattern = refl; exception = refl }

starts : {X : Type 0} (o : Option (List ℕ)) (f : List ℕ → Option X) (x : X) → option_and_then f o ≡ Some x → is_some o ≡ true
starts None f x e = absurd cc
starts (Some rest) f x e = refl

second-spells_nothing : (line language : List ℕ) → language_of line ≡ Some language → SpellsNothing line
second-spells_nothing line language e = begun 108 (codes "anguage ") line (starts (strip_prefix (codes "language ") line) (λ code. cond {A = Option (List ℕ)} (is_code code) (Some code) None) language e) refl refl

third-spells_nothing : (line : List ℕ) (minima : ℕ × ℕ) → minima_of line ≡ Some minima → SpellsNothing line
third-spells_nothing line minima e = begun 109 (codes "inima ") line (starts (strip_prefix (codes "minima ") line) (λ rest. two_minima (slice_split (λ b. b == 32) rest)) minima e) refl refl

-- a line that fails one of the first five tests
refused_at : (form : Form) (earlier : List (List ℕ)) (line : List ℕ) (rest : List (List ℕ)) (refusal : Refusal)
    → IsRefusal refusal (at_number (length earlier + 1) (cause_before_token form (length earlier + 1) line)) → IsRefusal refusal (fault_after form earlier (line ∷ rest))
refused_at form earlier line rest Memory h = tt
refused_at form earlier line rest (Fault n c) h =
    ap (λ (o : Option Cause). option_or (option_map {U = ℕ × Cause} (λ cause. (length earlier + 1, cause)) (option_or o (repetition form.version earlier line))) (fault_after form (earlier ++ line ∷ []) rest)) (halves form (length earlier + 1) line)
    ∙ by (cause_before_token form (length earlier + 1) line) h
  where
    by : (o : Option Cause) → option_map {U = ℕ × Cause} (λ cause. (length earlier + 1, cause)) o ≡ Some (n, c)
        → option_or (option_map {U = ℕ × Cause} (λ cause. (length earlier + 1, cause)) (option_or (option_or o (item_cause form line)) (repetition form.version earlier line))) (fault_after form (earlier ++ line ∷ []) rest) ≡ Some (n, c)
    by None e = absurd cc
    by (Some x) e = e

-- the head, line by line
module _ (form : Form) (a : List ℕ) (ok : cause_before_token form 1 a ≡ None) where
  after_first : (rest : List (List ℕ)) → fault_after form [] (a ∷ rest) ≡ fault_after form (a ∷ []) rest
  after_first rest = on a (first-spells_nothing form a ok) form [] rest ok

  pub no_second : fault_after form [] (a ∷ []) ≡ Some (2, Language)
  no_second = after_first []

  pub second_refused : (b : List ℕ) (rest : List (List ℕ)) (refusal : Refusal) → IsRefusal refusal (at_number 2 (cause_before_token form 2 b)) → IsRefusal refusal (fault_after form [] (a ∷ b ∷ rest))
  second_refused b rest refusal h = subst (IsRefusal refusal) (sym (after_first (b ∷ rest))) (refused_at form (a ∷ []) b rest refusal h)

  module _ (b language : List ℕ) (says : language_of b ≡ Some language) (ok_b : cause_before_token form 2 b ≡ None) where
    after_second : (rest : List (List ℕ)) → fault_after form [] (a ∷ b ∷ rest) ≡ fault_after form (a ∷ b ∷ []) rest
    after_second rest = after_first (b ∷ rest) ∙ on b (second-spells_nothing b language says) form (a ∷ []) rest ok_b

    pub no_third : fault_after form [] (a ∷ b ∷ []) ≡ Some (3, Minima)
    no_third = after_second []

    pub third_refused : (c : List ℕ) (rest : List (List ℕ)) (refusal : Refusal) → IsRefusal refusal (at_number 3 (cause_before_token form 3 c)) → IsRefusal refusal (fault_after form [] (a ∷ b ∷ c ∷ rest))
    third_refused c rest refusal h = subst (IsRefusal refusal) (sym (after_second (c ∷ rest))) (refused_at form (a ∷ b ∷ []) c rest refusal h)

    pub has_head : (c : List ℕ) (minima : ℕ × ℕ) (rest : List (List ℕ)) → minima_of c ≡ Some minima → cause_before_token form 3 c ≡ None → HasHead form (a ∷ b ∷ c ∷ rest) language minima
    has_head c minima rest spelling_as ok_c = record {
      three_lines = omega arith;
      second = says;
      third = spelling_as;
      goes_on = after_second (c ∷ rest) ∙ on c (third-spells_nothing c minima spelling_as) form (a ∷ b ∷ []) rest ok_c;
      spells_nothing =
          let x = first-spells_nothing form a ok in
          let y = second-spells_nothing b language says in
          let z = third-spells_nothing c minima spelling_as in
          λ i. not (x.pattern i || x.exception i) && (not (y.pattern i || y.exception i) && (not (z.pattern i || z.exception i) && true));
    }

pub first_refused : (form : Form) (a : List ℕ) (rest : List (List ℕ)) (refusal : Refusal) → IsRefusal refusal (at_number 1 (cause_before_token form 1 a)) → IsRefusal refusal (fault_after form [] (a ∷ rest))
first_refused form a rest refusal h = refused_at form [] a rest refusal h

-- lines that spell no item spell nothing together
unspelt : {X : Type 0} (spells : List ℕ → Option (List ℕ × X)) (ls : List (List ℕ)) → ((l : List ℕ) → not (is_item_line l) ≡ true → spells l ≡ None) → spell_nothing ls ≡ true → filter_map spells ls ≡ []
unspelt spells [] none e = refl
unspelt {X} spells (l ∷ ls) none e =
    (λ i. cons_option (none l (first_so (not (is_item_line l)) (spell_nothing ls) e) i) (filter_map spells ls)) ∙ unspelt spells ls none (second_so (not (is_item_line l)) (spell_nothing ls) e)

pub spells_nothing-spelt : {C B : Type 0} (version : Version) (payload_of : Option Change → C) (listing_of : Break → B) (ls : List (List ℕ)) → spell_nothing ls ≡ true → items_of_lines version payload_of listing_of ls ≡ items_of_lines version payload_of listing_of []
spells_nothing-spelt {C} {B} version payload_of listing_of ls e =
    let keys = unspelt (spelling_as (entry_as payload_of) (pattern_of_line version)) ls (λ l h. ap (λ (b : Bool). option_map {U = List ℕ × List (Entry C)} (λ (x : List ℕ × List (Entry (Option Change))). (x.0, map (entry_as payload_of) x.1)) (cond b (Some (key_of_line version l, entries_of_line version l)) None)) (or_parts (is_pattern_line l) (is_exception_line l) (not-true ((is_pattern_line l) || (is_exception_line l)) h)).0) e in
    let words = unspelt (spelling_as listing_of exception_of_line) ls (λ l h. ap (λ (b : Bool). option_map {U = List ℕ × List B} (λ (x : List ℕ × List Break). (x.0, map listing_of x.1)) (cond b (Some (word_of_line l, breaks_of_line l)) None)) (or_parts (is_pattern_line l) (is_exception_line l) (not-true ((is_pattern_line l) || (is_exception_line l)) h)).1) e in
    λ i. record { patterns = finite.from_entries (keys i); exceptions = finite.from_entries (words i) }
