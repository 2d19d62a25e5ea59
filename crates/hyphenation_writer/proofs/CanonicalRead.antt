-- The canonical text is accepted, and gives its dictionary again.
use Rattle.std.proofs.Common.{◌≡◌, ℕ, suc, ◌<◌, ◌≤◌, Bool, true, false, cond, not, ◌&&◌, eqb, nat_le, nat_lt, List, [], ◌∷◌, ◌++◌, length, map, Option, Some, None, is_none, unwrap_or, refl, sym, ap, subst, ◌∙◌, arith}
use Rattle.std.specs.Prelude.{decimal, codes, IsUtf8}
use Rattle.std.specs.Option.{option_map, option_and_then}
use Rattle.std.specs.List.{list_all, slice_split, All}
use Rattle.std.specs.Str.{is_utf8, chars}
use Rattle.std.specs.FinMap as finite
use Rattle.std.specs.FinMap.{entries_sorted}
use mathlib.Core.List.{map-map}
use Rattle.std.proofs.lemmas.List.{append-nil}
use Rattle.std.proofs.lemmas.List.Folds.{list_all-map}
use Rattle.std.proofs.lemmas.List.Elements.{All-from_recursion}
use Rattle.std.proofs.lemmas.List.Splits.{slice_split_at, slice_split_none}
use Rattle.std.proofs.lemmas.Str.{IsUtf8-append, is_utf8-from_IsUtf8, IsUtf8-from_is_utf8}
use Rattle.std.proofs.lemmas.Bool.{and_from, not-true}
use Rattle.std.proofs.lemmas.Bool.Decides.{nat_tests}
use Rattle.hyphenation_breaks.specs.Break.{Break, Change, ascend_on}
use Rattle.hyphenation_breaks.specs.Dictionary.{Contents}
use Rattle.hyphenation_grammar.specs.Form.{head_line, head_of, version_by}
use Rattle.hyphenation_grammar.specs.Items.{key_of_line, word_of_line, key_spelt, word_spelt, pattern_of_line, exception_of_line}
use Rattle.hyphenation_grammar.specs.Judging.{own_cause, repetition, is_repeated, fault_of, fault_after, refusal_of, fails}
use Rattle.hyphenation_breaks.specs.Invariant.{IsDictionary, IsPattern, IsException, is_value, are_entries, are_listed, stays_within, lists_within}
use Rattle.hyphenation_breaks.specs.Language.{is_code_byte, IsCode}
use Rattle.hyphenation_grammar.specs.Lines.{language_of, minima_of, number_to_255, two_minima, lines_of}
use Rattle.hyphenation_grammar.specs.Reading.{map_of_lines, spelling_as, entry_as, contents_in, contents_of}
use Rattle.hyphenation_writer.specs.Canonical.{entry_as_spelt, pattern_line, exception_line, minima_line, language_line, canonical_lines, canonical_text_of, are_digits, version_for}
use Rattle.hyphenation_writer.specs.Laws.{HoldsExactly}
use Rattle.hyphenation_breaks.specs.declared.entry.Entry.{Entry}
use Rattle.hyphenation_grammar.specs.declared.Cause.{Cause}
use Rattle.hyphenation_grammar.specs.declared.Cause.TheVariants.{RepeatedPattern, RepeatedException}
use Rattle.hyphenation_grammar.specs.declared.form.Form.{Form}
use Rattle.hyphenation_grammar.specs.declared.form.Kind.{Kind}
use Rattle.hyphenation_grammar.specs.declared.form.Kind.TheVariants.{Standard, Extended}
use Rattle.hyphenation_grammar.specs.declared.form.Version.{Version}
use Rattle.hyphenation_grammar.specs.declared.form.Version.TheVariants.{First, Second}
use Rattle.hyphenation_writer.proofs.CanonicalAccepted.{AllPairs, all-entries, all-tested, all-both, passes_line, enough, Fine, AllNew, AllSilent, chain, all-new, Again, AllQuiet, gathered_again}
use Rattle.hyphenation_breaks.specs.Laws.{is_entry, EntriesInOrder, CodesAreText}
use Rattle.hyphenation_writer.proofs.AsciiBytes.{one_ascii}
use Rattle.hyphenation_writer.proofs.Decimals.{decimal-utf8, wide, small-again}
use Rattle.hyphenation_writer.proofs.SpelledBytes.{Free, free-append, digits-free}
use Rattle.hyphenation_writer.proofs.CanonicalLines.{Faultless, own_tests, own-none, none-found, are_small, have_allowed, are_allowed, pattern-faultless, pattern-spelt, pattern-feed, exception-faultless, exception-spelt, exception-feed}
use Rattle.std.specs.Cmp.{first_so, second_so}
use Rattle.hyphenation_writer.proofs.CanonicalLaterTokens.{is_allowed}
use Rattle.hyphenation_writer.proofs.CanonicalTokens.{AllLines, lines-ended}

-- ---- The head lines.

heads : (k : Kind) (v : Version) → own_cause (record { kind = k; version = v }) 1 (head_of k v) ≡ None
unfolding is_utf8 chars lib.Utf8.encode
heads Standard First = refl
heads Standard Second = refl
heads Extended First = refl
heads Extended Second = refl

-- the first line says its version
pub version-again : (k : Kind) (v : Version) → version_by k (head_of k v) ≡ v
version-again Standard First = refl
version-again Standard Second = refl
version-again Extended First = refl
version-again Extended Second = refl

head_alone : (k : Kind) (v : Version) → repetition v [] (head_of k v) ≡ None
head_alone Standard First = refl
head_alone Standard Second = refl
head_alone Extended First = refl
head_alone Extended Second = refl

head_key : (k : Kind) (v : Version) → key_spelt v (head_of k v) ≡ None
head_key Standard First = refl
head_key Standard Second = refl
head_key Extended First = refl
head_key Extended Second = refl

head_word : (k : Kind) (v : Version) → word_spelt (head_of k v) ≡ None
head_word Standard First = refl
head_word Standard Second = refl
head_word Extended First = refl
head_word Extended Second = refl

-- a text of which each byte is another one
free-test : (c : ℕ) (text : List ℕ) → list_all (λ b. not (eqb b c)) text ≡ true → Free c text
free-test c [] e = tt
free-test c (b ∷ text) e = (not-true (eqb b c) (first_so (not (eqb b c)) (list_all (λ x. not (eqb x c)) text) e), free-test c text (second_so (not (eqb b c)) (list_all (λ x. not (eqb x c)) text) e))

pub head_feed : (k : Kind) (v : Version) → Free 10 (head_of k v)
head_feed Standard First = free-test 10 (head_of Standard First) refl
head_feed Standard Second = free-test 10 (head_of Standard Second) refl
head_feed Extended First = free-test 10 (head_of Extended First) refl
head_feed Extended Second = free-test 10 (head_of Extended Second) refl

language_name_test : is_utf8 (codes "language ") ≡ true
unfolding is_utf8 chars lib.Utf8.encode
language_name_test = refl

minima_name_test : is_utf8 (codes "minima ") ≡ true
unfolding is_utf8 chars lib.Utf8.encode
minima_name_test = refl

language_name : IsUtf8 (codes "language ")
language_name = IsUtf8-from_is_utf8 (codes "language ") language_name_test

minima_name : IsUtf8 (codes "minima ")
minima_name = IsUtf8-from_is_utf8 (codes "minima ") minima_name_test

language_again : (code : List ℕ) → IsCode code → language_of (language_line code) ≡ Some code
language_again code h = ap (λ (t : Bool). cond {A = Option (List ℕ)} t (Some code) None) h

no_feed : (b : ℕ) → is_code_byte b ≡ true → eqb b 10 ≡ false
no_feed b e = grind (arith, nat_tests)

code_feed : (code : List ℕ) → list_all is_code_byte code ≡ true → Free 10 code
code_feed [] e = tt
code_feed (b ∷ code) e = (no_feed b (first_so (is_code_byte b) (list_all is_code_byte code) e), code_feed code (second_so (is_code_byte b) (list_all is_code_byte code) e))

language_passes : CodesAreText → (form : Form) (code : List ℕ) → IsCode code → own_cause form 2 (language_line code) ≡ None
language_passes are_text form code h =
    let line = language_line code in
    none-found (fails form 2 line) own_tests (
      ap not (is_utf8-from_IsUtf8 line (IsUtf8-append (codes "language ") code language_name (are_text code h))),
      (refl, (ap is_none (language_again code h), (refl, (refl, (refl, (refl, (refl, (refl, (refl, (refl, (refl, tt))))))))))),
    )

minima_split : (l r : ℕ) → l ≤ 255 → r ≤ 255 → slice_split (λ b. eqb b 32) (decimal l ++ 32 ∷ decimal r) ≡ decimal l ∷ (decimal r ∷ [])
minima_split l r hl hr =
    slice_split_at (λ b. eqb b 32) (decimal l) 32 (decimal r) (All-from_recursion (λ b. eqb b 32 ≡ false) (decimal l) (digits-free 32 l (omega arith) (wide l hl))) refl
    ∙ ap (λ (ts : List (List ℕ)). decimal l ∷ ts) (slice_split_none (λ b. eqb b 32) (decimal r) (All-from_recursion (λ b. eqb b 32 ≡ false) (decimal r) (digits-free 32 r (omega arith) (wide r hr))))

minima_again : (l r : ℕ) → l ≤ 255 → r ≤ 255 → minima_of (minima_line l r) ≡ Some (l, r)
minima_again l r hl hr = ap two_minima (minima_split l r hl hr) ∙ two (number_to_255 (decimal l)) (number_to_255 (decimal r)) (small-again l hl) (small-again r hr)
  where
    two : (a b : Option ℕ) → a ≡ Some l → b ≡ Some r → option_and_then {U = ℕ × ℕ} (λ left. option_map {U = ℕ × ℕ} (λ right. (left, right)) b) a ≡ Some (l, r)
    two a b x y = rw (x, y) refl

minima_passes : (form : Form) (l r : ℕ) → l ≤ 255 → r ≤ 255 → own_cause form 3 (minima_line l r) ≡ None
minima_passes form l r hl hr =
    let line = minima_line l r in
    none-found (fails form 3 line) own_tests (
      ap not (is_utf8-from_IsUtf8 line (IsUtf8-append (codes "minima ") (decimal l ++ 32 ∷ decimal r) minima_name (IsUtf8-append (decimal l) (32 ∷ decimal r) (decimal-utf8 l (wide l hl)) (IsUtf8-append (32 ∷ []) (decimal r) (one_ascii 32 (omega arith)) (decimal-utf8 r (wide r hr)))))),
      (refl, (refl, (ap is_none (minima_again l r hl hr), (refl, (refl, (refl, (refl, (refl, (refl, (refl, (refl, tt))))))))))),
    )

-- ---- Lists.

each_all : (ls : List (List ℕ)) → AllLines ls → (ms : List (List ℕ)) → AllLines ms → AllLines (ls ++ ms)
each_all [] h ms k = k
each_all (l ∷ ls) h ms k = (h.0, each_all ls h.1 ms k)

-- ---- Values and changes.

one_allowed : (kind : Kind) (o : Option Change) → (kind ≡ Standard → o ≡ None) → is_allowed kind o ≡ true
one_allowed Standard o f = ap (is_allowed Standard) (f refl)
one_allowed Extended None f = refl
one_allowed Extended (Some c) f = refl

values-small : {C : Type 0} (change_of : C → Option Change) (q : List ℕ) (es : List (Entry C)) → list_all (is_entry change_of q) es ≡ true → are_small Second (map (entry_as_spelt change_of) es) ≡ true
values-small change_of q [] a = refl
values-small change_of q (e ∷ es) a =
    let value = first_so (is_value e.value) (stays_within q e.place (change_of e.change)) (first_so (is_entry change_of q e) (list_all (is_entry change_of q) es) a) in
    and_from (nat_le e.value 255) (are_small Second (map (entry_as_spelt change_of) es)) (second_so (nat_lt 0 e.value) (nat_le e.value 255) value)
    (values-small change_of q es (second_so (is_entry change_of q e) (list_all (is_entry change_of q) es) a))

digits-small : {C : Type 0} (change_of : C → Option Change) (es : List (Entry C)) → are_digits es ≡ true → are_small First (map (entry_as_spelt change_of) es) ≡ true
digits-small change_of [] e = refl
digits-small change_of (x ∷ es) e = and_from (nat_le x.value 9) (are_small First (map (entry_as_spelt change_of) es)) (first_so (nat_le x.value 9) (are_digits es) e) (digits-small change_of es (second_so (nat_le x.value 9) (are_digits es) e))

-- ---- The dictionary.

module _ (in_order : EntriesInOrder (Option Change)) (are_text : CodesAreText) {C B : Type 0} (kind : Kind) (payload_of : Option Change → C) (listing_of : Break → B) (change_of : C → Option Change) (break_of : B → Break)
    (exact : HoldsExactly {C = C} {B = B} kind (record { payload_of = payload_of; listing_of = listing_of; change_of = change_of; break_of = break_of })) (contents : Contents C B) (kept : IsDictionary change_of break_of contents) where
  abbrev version : Version
  version = version_for contents

  abbrev form : Form
  form = record { kind = kind; version = version_for contents }

  abbrev p_line : List ℕ × List (Entry C) → List ℕ
  p_line x = pattern_line version x.0 (map (entry_as_spelt change_of) x.1)

  abbrev e_line : List ℕ × List B → List ℕ
  e_line x = exception_line x.0 (map break_of x.1)

  abbrev p_lines : List (List ℕ)
  p_lines = map p_line (finite.entries contents.patterns)

  abbrev e_lines : List (List ℕ)
  e_lines = map e_line (finite.entries contents.exceptions)

  -- what a dictionary holds says what it carries
  as_entries : (q : List ℕ) (es : List (Entry C)) → are_entries (λ c. c) q (map (entry_as_spelt change_of) es) ≡ are_entries change_of q es
  as_entries q es =
      let places : map (λ e. e.place) (map (entry_as_spelt change_of) es) ≡ map (λ e. e.place) es = map-map (λ e. e.place) (entry_as_spelt change_of) es in
      let each : list_all (is_entry (λ c. c) q) (map (entry_as_spelt change_of) es) ≡ list_all (is_entry change_of q) es = list_all-map (is_entry (λ c. c) q) (entry_as_spelt change_of) es in
      λ i. ascend_on q 0 (places i) && each i

  as_listed : (q : List ℕ) (bs : List B) → are_listed (λ b. b) q (map break_of bs) ≡ are_listed break_of q bs
  as_listed q bs =
      let places : map (λ b. b.place) (map break_of bs) ≡ map (λ b. (break_of b).place) bs = map-map (λ b. b.place) break_of bs in
      let within : list_all (λ b. lists_within q b.place b.change) (map break_of bs) ≡ list_all (λ b. lists_within q (break_of b).place (break_of b).change) bs = list_all-map (λ b. lists_within q b.place b.change) break_of bs in
      λ i. ascend_on q 0 (places i) && within i

  entries-back : (es : List (Entry C)) → map (entry_as payload_of) (map (entry_as_spelt change_of) es) ≡ es
  entries-back [] = refl
  entries-back (e ∷ es) = λ i. record { place = e.place; value = e.value; change = exact.changes e.change i } ∷ entries-back es i

  listed-back : (bs : List B) → map listing_of (map break_of bs) ≡ bs
  listed-back [] = refl
  listed-back (b ∷ bs) = λ i. exact.breaks b i ∷ listed-back bs i

  -- a standard dictionary holds no change
  entries-allowed : (es : List (Entry C)) → have_allowed kind (map (entry_as_spelt change_of) es) ≡ true
  entries-allowed [] = refl
  entries-allowed (e ∷ es) = and_from (is_allowed kind (change_of e.change)) (have_allowed kind (map (entry_as_spelt change_of) es)) (one_allowed kind (change_of e.change) (λ is. exact.no_change is e.change)) (entries-allowed es)

  listed-allowed : (bs : List B) → are_allowed kind (map break_of bs) ≡ true
  listed-allowed [] = refl
  listed-allowed (b ∷ bs) = and_from (is_allowed kind (break_of b).change) (are_allowed kind (map break_of bs)) (one_allowed kind (break_of b).change (λ is. exact.no_listed_change is b)) (listed-allowed bs)

  -- the version says each value
  keys_kept : AllPairs (IsPattern change_of) (finite.entries contents.patterns)
  keys_kept = all-entries (IsPattern change_of) contents.patterns kept.patterns

  abbrev IsSmall : Version → List ℕ → List (Entry C) → Type 0
  IsSmall v q es = are_small v (map (entry_as_spelt change_of) es) ≡ true

  keys_small : AllPairs (IsSmall version) (finite.entries contents.patterns)
  keys_small = by (list_all (λ x. are_digits x.1) (finite.entries contents.patterns)) refl
    where
      by : (t : Bool) → list_all (λ x. are_digits x.1) (finite.entries contents.patterns) ≡ t → AllPairs (IsSmall (cond t First Second)) (finite.entries contents.patterns)
      by true e =
          let each = all-tested (λ x. are_digits x.1) (finite.entries contents.patterns) e in
          all-both (IsPattern change_of) (λ q es. are_digits es ≡ true) (IsSmall First) (finite.entries contents.patterns) (λ q es k h. digits-small change_of es h) keys_kept each
      by false e = all-both (IsPattern change_of) (IsPattern change_of) (IsSmall Second) (finite.entries contents.patterns) (λ q es k h. values-small change_of q es (second_so (ascend_on q 0 (map (λ e. e.place) es)) (list_all (is_entry change_of q) es) k.ascend)) keys_kept keys_kept

  -- each key_of_line, and each word_of_line
  record KeyLine (q : List ℕ) (es : List (Entry C)) : Type 0 where
    faultless : Faultless form (p_line (q, es))
    spelt : pattern_of_line version (p_line (q, es)) ≡ Some (q, map (entry_as_spelt change_of) es)
    feed : Free 10 (p_line (q, es))

  key_line : (q : List ℕ) (es : List (Entry C)) → IsPattern change_of q es → IsSmall version q es → KeyLine q es
  key_line q es is small =
      let w = entries-allowed es in
      let a : are_entries (λ c. c) q (map (entry_as_spelt change_of) es) ≡ true = as_entries q es ∙ is.ascend in
      record {
        faultless = pattern-faultless in_order form q (map (entry_as_spelt change_of) es) is.utf8 is.letter small w a;
        spelt = pattern-spelt in_order form q (map (entry_as_spelt change_of) es) is.utf8 is.letter small w a;
        feed = pattern-feed in_order form q (map (entry_as_spelt change_of) es) is.utf8 is.letter small w a;
      }

  key_lines : AllPairs KeyLine (finite.entries contents.patterns)
  key_lines = all-both (IsPattern change_of) (IsSmall version) KeyLine (finite.entries contents.patterns) key_line keys_kept keys_small

  record WordLine (q : List ℕ) (bs : List B) : Type 0 where
    faultless : Faultless form (e_line (q, bs))
    spelt : exception_of_line (e_line (q, bs)) ≡ Some (q, map break_of bs)
    feed : Free 10 (e_line (q, bs))

  word_line : (q : List ℕ) (bs : List B) → IsException break_of q bs → WordLine q bs
  word_line q bs is =
      let w = listed-allowed bs in
      let l : are_listed (λ b. b) q (map break_of bs) ≡ true = as_listed q bs ∙ is.ascend in
      record {
        faultless = exception-faultless form q (map break_of bs) is.utf8 w l;
        spelt = exception-spelt form q (map break_of bs) is.utf8 w l;
        feed = exception-feed form q (map break_of bs) is.utf8 w l;
      }

  word_lines : AllPairs WordLine (finite.entries contents.exceptions)
  word_lines = all-entries WordLine contents.exceptions (λ q bs has. word_line q bs (kept.exceptions q bs has))

  key_fine : (q : List ℕ) (es : List (Entry C)) → KeyLine q es → Fine form (key_spelt version) p_line q es
  key_fine q es k =
      let says : key_spelt version (p_line (q, es)) ≡ Some q = ap (option_map (λ x. x.0)) k.spelt in
      let is : key_of_line version (p_line (q, es)) ≡ q = cc in
      record {
        own = λ n big. own-none form n (p_line (q, es)) big k.faultless;
        says = says;
        alone = λ earlier none. ap (λ (t : List ℕ). cond {A = Option Cause} (is_repeated (key_spelt version) earlier t) (Some RepeatedPattern) None) is ∙ ap (λ (b : Bool). cond {A = Option Cause} b (Some RepeatedPattern) None) none;
      }

  word_fine : (q : List ℕ) (bs : List B) → WordLine q bs → Fine form word_spelt e_line q bs
  word_fine q bs k =
      let says : word_spelt (e_line (q, bs)) ≡ Some q = ap (option_map (λ x. x.0)) k.spelt in
      let is : word_of_line (e_line (q, bs)) ≡ q = cc in
      record {
        own = λ n big. own-none form n (e_line (q, bs)) big k.faultless;
        says = says;
        alone = λ earlier none. ap (λ (t : List ℕ). cond {A = Option Cause} (is_repeated word_spelt earlier t) (Some RepeatedException) None) is ∙ ap (λ (b : Bool). cond {A = Option Cause} b (Some RepeatedException) None) none;
      }

  abbrev the_heads : List (List ℕ)
  the_heads = head_line form ∷ (language_line contents.language ∷ (minima_line contents.left contents.right ∷ []))

  -- no word_of_line is spelt before the words, and no key_of_line but by keys
  p_silent : (xs : List (List ℕ × List (Entry C))) → AllSilent form {X = List B} word_spelt e_line (map p_line xs)
  p_silent [] = tt
  p_silent (x ∷ xs) = (refl, p_silent xs)

  words_new : AllNew form word_spelt e_line (the_heads ++ p_lines) (finite.entries contents.exceptions)
  words_new = all-new form word_spelt e_line (the_heads ++ p_lines) (finite.entries contents.exceptions) (head_word kind version, (refl, (refl, p_silent (finite.entries contents.patterns))))

  keys_new : AllNew form (key_spelt version) p_line the_heads (finite.entries contents.patterns)
  keys_new = all-new form (key_spelt version) p_line the_heads (finite.entries contents.patterns) (head_key kind version, (refl, (refl, tt)))

  at_end : fault_after form ((the_heads ++ p_lines) ++ e_lines) [] ≡ None
  at_end = enough form (length ((the_heads ++ p_lines) ++ e_lines)) (long (length (p_lines ++ e_lines)))
    where
      long : (n : ℕ) → 2 < suc (suc (suc n))
      long n = omega arith

  words_pass : fault_after form (the_heads ++ p_lines) e_lines ≡ None
  words_pass =
      subst (λ (ls : List (List ℕ)). fault_after form (the_heads ++ p_lines) ls ≡ None) (append-nil e_lines)
      (chain form word_spelt e_line (finite.entries contents.exceptions) (all-both WordLine WordLine (Fine form word_spelt e_line) (finite.entries contents.exceptions) (λ q bs k l. word_fine q bs k) word_lines word_lines) (entries_sorted contents.exceptions) (the_heads ++ p_lines) (long (length p_lines)) words_new [] at_end)
    where
      long : (n : ℕ) → 2 < suc (suc (suc n))
      long n = omega arith

  keys_pass : fault_after form the_heads (p_lines ++ e_lines) ≡ None
  keys_pass = chain form (key_spelt version) p_line (finite.entries contents.patterns) (all-both KeyLine KeyLine (Fine form (key_spelt version) p_line) (finite.entries contents.patterns) (λ q es k l. key_fine q es k) key_lines key_lines) (entries_sorted contents.patterns) the_heads (omega arith) keys_new e_lines words_pass

  pub lines-accepted : fault_after form [] (canonical_lines form change_of break_of contents) ≡ None
  lines-accepted =
      passes_line form [] (head_line form) (language_line contents.language ∷ (minima_line contents.left contents.right ∷ (p_lines ++ e_lines))) (heads kind version) (head_alone kind version)
      (passes_line form (head_line form ∷ []) (language_line contents.language) (minima_line contents.left contents.right ∷ (p_lines ++ e_lines)) (language_passes are_text form contents.language kept.code) refl
      (passes_line form (head_line form ∷ (language_line contents.language ∷ [])) (minima_line contents.left contents.right) (p_lines ++ e_lines) (minima_passes form contents.left contents.right kept.left kept.right) refl keys_pass))

  -- the lines are those of the text
  feed-free : (l : List ℕ) → Free 10 l → All (λ b. eqb b 10 ≡ false) l
  feed-free l h = All-from_recursion (λ b. eqb b 10 ≡ false) l h

  p_feed : (xs : List (List ℕ × List (Entry C))) → AllPairs KeyLine xs → AllLines (map p_line xs)
  p_feed [] h = tt
  p_feed (x ∷ xs) h = (feed-free (p_line x) (h.0).feed, p_feed xs h.1)

  e_feed : (xs : List (List ℕ × List B)) → AllPairs WordLine xs → AllLines (map e_line xs)
  e_feed [] h = tt
  e_feed (x ∷ xs) h = (feed-free (e_line x) (h.0).feed, e_feed xs h.1)

  minima_feed : (l r : ℕ) → l ≤ 255 → r ≤ 255 → Free 10 (minima_line l r)
  minima_feed l r hl hr = free-append 10 (codes "minima ") (decimal l ++ 32 ∷ decimal r) (free-test 10 (codes "minima ") refl) (free-append 10 (decimal l) (32 ∷ decimal r) (digits-free 10 l (omega arith) (wide l hl)) (refl, digits-free 10 r (omega arith) (wide r hr)))

  pub canonical-lines : lines_of (canonical_text_of kind change_of break_of contents) ≡ canonical_lines form change_of break_of contents
  canonical-lines =
      lines-ended (canonical_lines form change_of break_of contents) (
        feed-free (head_line form) (head_feed kind version),
        (
          feed-free (language_line contents.language) (free-append 10 (codes "language ") contents.language (free-test 10 (codes "language ") refl) (code_feed contents.language (second_so (nat_le 1 (length contents.language) && nat_le (length contents.language) 32) (list_all is_code_byte contents.language) kept.code))),
          (
            feed-free (minima_line contents.left contents.right) (minima_feed contents.left contents.right kept.left kept.right),
            each_all p_lines (p_feed (finite.entries contents.patterns) key_lines) e_lines (e_feed (finite.entries contents.exceptions) word_lines),
          ),
        ),
      )

  -- The text is accepted.
  pub canonical-accepted : refusal_of kind (canonical_text_of kind change_of break_of contents) ≡ None
  canonical-accepted =
      ap (fault_of kind) canonical-lines ∙ ap (λ (v : Version). fault_after (record { kind = kind; version = v }) [] (canonical_lines form change_of break_of contents)) (version-again kind version) ∙ lines-accepted

  -- and its lines spell the dictionary
  abbrev say_p : List ℕ → Option (List ℕ × List (Entry C))
  say_p = spelling_as (entry_as payload_of) (pattern_of_line version)

  abbrev say_e : List ℕ → Option (List ℕ × List B)
  say_e = spelling_as listing_of exception_of_line

  key_again : (q : List ℕ) (es : List (Entry C)) → KeyLine q es → Again say_p p_line q es
  key_again q es k =
      ap (option_map {U = List ℕ × List (Entry C)} (λ x. (x.0, map (entry_as payload_of) x.1))) k.spelt ∙ ap (λ (xs : List (Entry C)). Some (q, xs)) (entries-back es)

  word_again : (q : List ℕ) (bs : List B) → WordLine q bs → Again say_e e_line q bs
  word_again q bs k =
      ap (option_map {U = List ℕ × List B} (λ x. (x.0, map listing_of x.1))) k.spelt ∙ ap (λ (xs : List B). Some (q, xs)) (listed-back bs)

  head_p : (k : Kind) (v : Version) → say_p (head_of k v) ≡ None
  head_p Standard First = refl
  head_p Standard Second = refl
  head_p Extended First = refl
  head_p Extended Second = refl

  head_e : (k : Kind) (v : Version) → say_e (head_of k v) ≡ None
  head_e Standard First = refl
  head_e Standard Second = refl
  head_e Extended First = refl
  head_e Extended Second = refl

  e_quiet : (xs : List (List ℕ × List B)) → AllQuiet say_p p_line (map e_line xs)
  e_quiet [] = tt
  e_quiet (x ∷ xs) = (refl, e_quiet xs)

  p_quiet : (xs : List (List ℕ × List (Entry C))) → AllQuiet say_e e_line (map p_line xs)
  p_quiet [] = tt
  p_quiet (x ∷ xs) = (refl, p_quiet xs)

  patterns-again : map_of_lines say_p (canonical_lines form change_of break_of contents) ≡ contents.patterns
  patterns-again = gathered_again say_p p_line contents.patterns the_heads e_lines (all-both KeyLine KeyLine (Again say_p p_line) (finite.entries contents.patterns) (λ q es k l. key_again q es k) key_lines key_lines) (head_p kind version, (refl, (refl, tt))) (e_quiet (finite.entries contents.exceptions))

  exceptions-again : map_of_lines say_e (canonical_lines form change_of break_of contents) ≡ contents.exceptions
  exceptions-again =
      ap (λ (ls : List (List ℕ)). map_of_lines say_e (the_heads ++ (p_lines ++ ls))) (sym (append-nil e_lines))
      ∙ gathered_again say_e e_line contents.exceptions (the_heads ++ p_lines) [] (all-both WordLine WordLine (Again say_e e_line) (finite.entries contents.exceptions) (λ q bs k l. word_again q bs k) word_lines word_lines) (head_e kind version, (refl, (refl, p_quiet (finite.entries contents.patterns)))) tt

  -- The text gives the dictionary.
  pub canonical-contents : contents_of kind payload_of listing_of (lines_of (canonical_text_of kind change_of break_of contents)) ≡ contents
  canonical-contents =
      ap (contents_of kind payload_of listing_of) canonical-lines
      ∙ ap (λ (v : Version). contents_in v payload_of listing_of (canonical_lines form change_of break_of contents)) (version-again kind version)
      ∙ (λ i. record {
        language = unwrap_or (language_again contents.language kept.code i) [];
        left = (unwrap_or (minima_again contents.left contents.right kept.left kept.right i) (0, 0)).0;
        right = (unwrap_or (minima_again contents.left contents.right kept.left kept.right i) (0, 0)).1;
        patterns = patterns-again i;
        exceptions = exceptions-again i;
      })
