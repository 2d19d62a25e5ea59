-- A line as it is written passes its tests, and spells the pattern or exception that it was written for.
use Rattle.std.proofs.Common.{◌≡◌, ℕ, suc, ◌+◌, ◌<◌, ◌≤◌, Bool, true, false, cond, not, ◌&&◌, ◌||◌, eqb, nat_le, nat_lt, List, [], ◌∷◌, ◌++◌, length, drop, map, get_or, Option, Some, None, is_some, is_none, unwrap_or, refl, sym, ap, ◌∙◌, arith}
use Rattle.std.specs.Prelude.{IsUtf8}
use Rattle.std.specs.List.{find, list_all, list_any, slice_split, AllByRecursion}
use Rattle.std.specs.Str.{is_utf8}
use Rattle.std.proofs.lemmas.List.{append-nil}
use Rattle.std.proofs.lemmas.List.Elements.{All-from_recursion}
use Rattle.std.proofs.lemmas.List.Splits.{slice_split_at, slice_split_none}
use Rattle.std.proofs.lemmas.Str.{IsUtf8-append, IsUtf8-nil, is_utf8-from_IsUtf8}
use Rattle.std.proofs.lemmas.Bool.{leb-true, and_from, and_left, and_right, le-leb, ltb-true, or_left, or_right}
use Rattle.std.proofs.lemmas.Bool.Decides.{nat_tests}
use Rattle.hyphenation_breaks.specs.Break.{Break, Change, ascend_on, is_boundary, keeps_within}
use Rattle.hyphenation_grammar.specs.declared.form.Form.{Form}
use Rattle.hyphenation_grammar.specs.declared.form.Kind.{Kind}
use Rattle.hyphenation_grammar.specs.declared.form.Version.{Version}
use Rattle.hyphenation_grammar.specs.Items.{break_of_token, change_at, pattern_of_line, exception_of_line}
use Rattle.hyphenation_grammar.specs.Judging.{is_good_later_token, has_value_at, fails, own_cause, is_known}
use Rattle.hyphenation_breaks.specs.Invariant.{fits_usize, can_be_written, can_be_written_if_any, stays_within, lists_within, is_value, are_entries, are_listed, has_letter}
use Rattle.hyphenation_grammar.specs.Lines.{is_number}
use Rattle.hyphenation_grammar.specs.Tokens.{elements_of, pattern_bytes, text_spelt, key_of, values_from, two_values, numerals_of, is_readable, place_of_token}
use Rattle.hyphenation_writer.specs.Canonical.{elements_for, pattern_token, text_token, break_token, later_tokens, onto_changes, changes_of, pattern_line, exception_line}
use Rattle.hyphenation_breaks.specs.declared.entry.Entry.{Entry}
use Rattle.hyphenation_grammar.specs.declared.Cause.{Cause}
use Rattle.hyphenation_grammar.specs.declared.Cause.TheVariants.{NotUtf8, Header, Language, Minima, UnknownLine, Token, Value as BadValue, Pattern, NoLetters, Number, Place, Change as BadChange}
use Rattle.hyphenation_grammar.specs.declared.tokens.PatternElement.{PatternElement}
use Rattle.hyphenation_grammar.specs.declared.tokens.PatternElement.TheVariants.{Letter, Value}
use Rattle.hyphenation_writer.proofs.AsciiBytes.{one_ascii, two_ascii}
use Rattle.hyphenation_writer.proofs.SpelledBytes.{Free, space, feed, free-append, marks-free, text-free, small}
use Rattle.hyphenation_breaks.specs.Laws.{entries_from, EntriesInOrder}
use Rattle.std.specs.Cmp.{first_so, second_so}
use Rattle.hyphenation_writer.proofs.CanonicalLaterTokens.{Tells, tells, is_allowed, good, text-again, token-some}
use Rattle.hyphenation_writer.proofs.SpelledUtf8.{AllSeams, marks-utf8, token-utf8}
use Rattle.hyphenation_writer.proofs.CanonicalTokens.{AllValues, greatest, marks-again, signs-again, Ascend, pairs, key_again, values_again}

-- ---- The later tokens of a line.

abbrev pub token_of : Break → List ℕ
token_of b = break_token b.place b.change

abbrev pub tokens_for : List Break → List (List ℕ)
tokens_for bs = map token_of bs

-- A break that a text of that kind can write.
abbrev pub is_sayable : Kind → Break → Bool
is_sayable kind b = fits_usize b.place && can_be_written_if_any b.change && is_allowed kind b.change

abbrev pub are_allowed : Kind → List Break → Bool
are_allowed kind bs = list_all (λ b. is_allowed kind b.change) bs

-- Breaks that may be listed for a text can be written.
said_of : (text : List ℕ) (place : ℕ) (o : Option Change) → stays_within text place o ≡ true → can_be_written_if_any o ≡ true
said_of text place None s = refl
said_of text place (Some c) s = second_so (fits_usize place) (can_be_written c) (first_so (fits_usize place && can_be_written c) (keeps_within text place c) s)

abbrev are_within : List ℕ → List Break → Bool
are_within text bs = list_all (λ b. lists_within text b.place b.change) bs

listed-sayable : (kind : Kind) (text : List ℕ) (bs : List Break) → are_within text bs ≡ true → are_allowed kind bs ≡ true → list_all (is_sayable kind) bs ≡ true
listed-sayable kind text [] l w = refl
listed-sayable kind text (b ∷ bs) l w =
    let here = first_so (lists_within text b.place b.change) (are_within text bs) l in
    and_from (is_sayable kind b) (list_all (is_sayable kind) bs)
    (and_from (fits_usize b.place && can_be_written_if_any b.change) (is_allowed kind b.change)
    (and_from (fits_usize b.place) (can_be_written_if_any b.change) (first_so (fits_usize b.place) (stays_within text b.place b.change) here) (said_of text b.place b.change (second_so (fits_usize b.place) (stays_within text b.place b.change) here)))
    (first_so (is_allowed kind b.change) (are_allowed kind bs) w))
    (listed-sayable kind text bs (second_so (lists_within text b.place b.change) (are_within text bs) l) (second_so (is_allowed kind b.change) (are_allowed kind bs) w))

module _ (form : Form) where
  tell : (b : Break) → is_sayable form.kind b ≡ true → Tells (token_of b) b
  tell b w =
      let front = first_so (fits_usize b.place && can_be_written_if_any b.change) (is_allowed form.kind b.change) w in
      tells b.place b.change (first_so (fits_usize b.place) (can_be_written_if_any b.change) front) (second_so (fits_usize b.place) (can_be_written_if_any b.change) front)

  first_of : (b : Break) (bs : List Break) → list_all (is_sayable form.kind) (b ∷ bs) ≡ true → is_sayable form.kind b ≡ true
  first_of b bs w = first_so (is_sayable form.kind b) (list_all (is_sayable form.kind) bs) w

  rest_of : (b : Break) (bs : List Break) → list_all (is_sayable form.kind) (b ∷ bs) ≡ true → list_all (is_sayable form.kind) bs ≡ true
  rest_of b bs w = second_so (is_sayable form.kind b) (list_all (is_sayable form.kind) bs) w

  pub tokens_again : (first : List ℕ) (bs : List Break) → Free 32 first → list_all (is_sayable form.kind) bs ≡ true → slice_split (λ b. eqb b 32) (first ++ later_tokens bs) ≡ first ∷ tokens_for bs
  tokens_again first [] f w = ap (slice_split (λ b. eqb b 32)) (append-nil first) ∙ slice_split_none (λ b. eqb b 32) first (All-from_recursion (λ b. eqb b 32 ≡ false) first f)
  tokens_again first (b ∷ bs) f w =
      slice_split_at (λ c. eqb c 32) first 32 (token_of b ++ later_tokens bs) (All-from_recursion (λ c. eqb c 32 ≡ false) first f) refl
      ∙ ap (λ (ts : List (List ℕ)). first ∷ ts) (tokens_again (token_of b) bs ((tell b (first_of b bs w)).free 32 space) (rest_of b bs w))

  pub readable_each : (bs : List Break) → list_all (is_sayable form.kind) bs ≡ true → list_all is_readable (tokens_for bs) ≡ true
  readable_each [] w = refl
  readable_each (b ∷ bs) w = and_from (is_readable (token_of b)) (list_all is_readable (tokens_for bs)) (tell b (first_of b bs w)).readable (readable_each bs (rest_of b bs w))

  pub numbers_each : (bs : List Break) → list_all (is_sayable form.kind) bs ≡ true → list_all (λ token. list_all is_number (numerals_of token)) (tokens_for bs) ≡ true
  numbers_each [] w = refl
  numbers_each (b ∷ bs) w = and_from (list_all is_number (numerals_of (token_of b))) (list_all (λ token. list_all is_number (numerals_of token)) (tokens_for bs)) (tell b (first_of b bs w)).numbers (numbers_each bs (rest_of b bs w))

  pub listed_each : (bs : List Break) → list_all (is_sayable form.kind) bs ≡ true → map break_of_token (tokens_for bs) ≡ bs
  listed_each [] w = refl
  listed_each (b ∷ bs) w = λ i. (tell b (first_of b bs w)).listed i ∷ listed_each bs (rest_of b bs w) i

  pub utf8_each : (bs : List Break) → list_all (is_sayable form.kind) bs ≡ true → IsUtf8 (later_tokens bs)
  utf8_each [] w = IsUtf8-nil
  utf8_each (b ∷ bs) w = IsUtf8-append (32 ∷ token_of b) (later_tokens bs) (IsUtf8-append (32 ∷ []) (token_of b) (one_ascii 32 (omega arith)) (tell b (first_of b bs w)).utf8) (utf8_each bs (rest_of b bs w))

  pub feed_each : (bs : List Break) → list_all (is_sayable form.kind) bs ≡ true → Free 10 (later_tokens bs)
  feed_each [] w = tt
  feed_each (b ∷ bs) w = free-append 10 (32 ∷ token_of b) (later_tokens bs) (refl, (tell b (first_of b bs w)).free 10 feed) (feed_each bs (rest_of b bs w))

  pub places_each : (bs : List Break) → list_all (is_sayable form.kind) bs ≡ true → map place_of_token (tokens_for bs) ≡ map (λ b. b.place) bs
  places_each [] w = refl
  places_each (b ∷ bs) w = λ i. ((tell b (first_of b bs w)).listed i).place ∷ places_each bs (rest_of b bs w) i

  -- each is a change at the place of a value
  abbrev pub AllBelong : List PatternElement → List Break → Type 0
  AllBelong marks [] = Unit {0}
  AllBelong marks (b ∷ bs) = ((is_some b.change ≡ true) × (has_value_at marks b.place ≡ true)) × AllBelong marks bs

  pub good_each : (in_pattern : Bool) (marks : List PatternElement) (text : List ℕ) (bs : List Break) → list_all (is_sayable form.kind) bs ≡ true → are_within text bs ≡ true
      → (in_pattern ≡ true → AllBelong marks bs) → list_all (is_good_later_token form in_pattern marks text) (tokens_for bs) ≡ true
  good_each in_pattern marks text [] w l belong = refl
  good_each in_pattern marks text (b ∷ bs) w l belong =
      and_from (is_good_later_token form in_pattern marks text (token_of b)) (list_all (is_good_later_token form in_pattern marks text) (tokens_for bs))
      (good form in_pattern marks text (token_of b) b.place b.change (tell b (first_of b bs w)) (second_so (fits_usize b.place && can_be_written_if_any b.change) (is_allowed form.kind b.change) (first_of b bs w))
      (second_so (fits_usize b.place) (stays_within text b.place b.change) (first_so (lists_within text b.place b.change) (are_within text bs) l)) (λ e. (belong e).0))
      (good_each in_pattern marks text bs (rest_of b bs w) (second_so (lists_within text b.place b.change) (are_within text bs) l) (λ e. (belong e).1))

-- ---- A line that passes each test of its own.

pub record Faultless (form : Form) (line : List ℕ) : Type 0 where
  pub utf8 : is_utf8 line ≡ true
  pub known : is_known line ≡ true
  pub token : fails form 4 line Token ≡ false
  pub value : fails form 4 line BadValue ≡ false
  pub pattern : fails form 4 line Pattern ≡ false
  pub letters : fails form 4 line NoLetters ≡ false
  pub number : fails form 4 line Number ≡ false
  pub place : fails form 4 line Place ≡ false
  pub change : fails form 4 line BadChange ≡ false

-- The tests of a line by itself, and that it passes them where it fails none.
abbrev pub own_tests : List Cause
own_tests = NotUtf8 ∷ Header ∷ Language ∷ Minima ∷ UnknownLine ∷ Token ∷ BadValue ∷ Pattern ∷ NoLetters ∷ Number ∷ Place ∷ BadChange ∷ []

pub none-found : (p : Cause → Bool) (xs : List Cause) → AllByRecursion (λ x. p x ≡ false) xs → find p xs ≡ None
none-found p [] h = refl
none-found p (x ∷ xs) h = ap (λ (t : Bool). cond t (Some x) (find p xs)) h.0 ∙ none-found p xs h.1

pub own-none : (form : Form) (n : ℕ) (line : List ℕ) → 3 < n → Faultless form line → own_cause form n line ≡ None
own-none form n line big f =
    none-found (fails form n line) own_tests (
      ap not f.utf8,
      (
        and_left (eqb n 1) _ (small n 1 (omega arith)),
        (
          and_left (eqb n 2) _ (small n 2 (omega arith)),
          (
            and_left (eqb n 3) _ (small n 3 (omega arith)),
            (ap (λ (k : Bool). nat_lt 3 n && not k) f.known ∙ and_right (nat_lt 3 n) false refl, (f.token, (f.value, (f.pattern, (f.letters, (f.number, (f.place, (f.change, tt)))))))),
          ),
        ),
      ),
    )

known_by : (t : Bool) → (t || false || true) ≡ true
known_by true = refl
known_by false = refl

-- ---- A line of a word.

module _ (form : Form) (word : List ℕ) (bs : List Break) (u : IsUtf8 word) (allowed : are_allowed form.kind bs ≡ true) (l : are_listed (λ b. b) word bs ≡ true) where
  l_places : ascend_on word 0 (map (λ b. b.place) bs) ≡ true
  l_places = first_so (ascend_on word 0 (map (λ b. b.place) bs)) (are_within word bs) l

  l_within : are_within word bs ≡ true
  l_within = second_so (ascend_on word 0 (map (λ b. b.place) bs)) (are_within word bs) l

  w : list_all (is_sayable form.kind) bs ≡ true
  w = listed-sayable form.kind word bs l_within allowed

  e_toks : slice_split (λ b. eqb b 32) (text_token word ++ later_tokens bs) ≡ text_token word ∷ tokens_for bs
  e_toks = tokens_again form (text_token word) bs (text-free 32 space word) w

  pub exception-faultless : Faultless form (exception_line word bs)
  exception-faultless =
      let t = text-again word in
      record {
        utf8 = is_utf8-from_IsUtf8 (exception_line word bs) (IsUtf8-append (101 ∷ 32 ∷ []) (text_token word ++ later_tokens bs) (two_ascii 101 32 (omega arith) (omega arith)) (IsUtf8-append (text_token word) (later_tokens bs) (token-utf8 word u) (utf8_each form bs w)));
        known = known_by (eqb (length (exception_line word bs)) 0);
        token = ap (λ (ts : List (List ℕ)). not ((nat_lt 0 (length (get_or ts 0 [])) && is_some (text_spelt (get_or ts 0 []))) && list_all is_readable (drop 1 ts))) e_toks
            ∙ ap not (and_from (nat_lt 0 (length (text_token word)) && is_some (text_spelt (text_token word))) (list_all is_readable (tokens_for bs)) (and_from (nat_lt 0 (length (text_token word))) (is_some (text_spelt (text_token word))) (token-some word) (ap is_some t)) (readable_each form bs w));
        value = refl;
        pattern = refl;
        letters = refl;
        number = ap (λ (ts : List (List ℕ)). not (list_all (λ token. list_all is_number (numerals_of token)) (drop 1 ts))) e_toks ∙ ap not (numbers_each form bs w);
        place = ap (λ (ts : List (List ℕ)). not (ascend_on (unwrap_or (text_spelt (get_or ts 0 [])) []) 0 (map place_of_token (drop 1 ts)))) e_toks
            ∙ ap (λ (o : Option (List ℕ)). not (ascend_on (unwrap_or o []) 0 (map place_of_token (tokens_for bs)))) t ∙ ap not (ap (ascend_on word 0) (places_each form bs w) ∙ l_places);
        change = ap (λ (ts : List (List ℕ)). not (list_all (is_good_later_token form false (unwrap_or (elements_of form.version (get_or ts 0 [])) []) (unwrap_or (text_spelt (get_or ts 0 [])) [])) (drop 1 ts))) e_toks
            ∙ ap (λ (o : Option (List ℕ)). not (list_all (is_good_later_token form false (unwrap_or (elements_of form.version (text_token word)) []) (unwrap_or o [])) (tokens_for bs))) t
            ∙ ap not (good_each form false (unwrap_or (elements_of form.version (text_token word)) []) word bs w l_within (λ e. absurd cc));
      }

  pub exception-spelt : exception_of_line (exception_line word bs) ≡ Some (word, bs)
  exception-spelt =
      ap (λ (ts : List (List ℕ)). Some (unwrap_or (text_spelt (get_or ts 0 [])) [], map break_of_token (drop 1 ts))) e_toks
      ∙ (λ i. Some (unwrap_or (text-again word i) [], listed_each form bs w i))

  pub exception-feed : Free 10 (exception_line word bs)
  exception-feed = (refl, (refl, free-append 10 (text_token word) (later_tokens bs) (text-free 10 feed word) (feed_each form bs w)))

-- ---- A line of a key.

first_test : (a b c d e : Bool) → (a && b && c && d && e) ≡ true → (a ≡ true) × (b ≡ true) × (c ≡ true) × (d ≡ true) × (e ≡ true)
first_test a b c d e h =
    let abcd = first_so (a && b && c && d) e h in
    let abc = first_so (a && b && c) d abcd in
    let ab = first_so (a && b) c abc in
    (first_so a b ab, second_so a b ab, second_so (a && b) c abc, second_so (a && b && c) d abcd, second_so (a && b && c && d) e h)

entry_tests : (key : List ℕ) (least : ℕ) (e : Entry (Option Change)) (es : List (Entry (Option Change))) → entries_from (λ c. c) key least (e ∷ es) ≡ true
    → (nat_le least e.place ≡ true) × (is_boundary key e.place ≡ true) × (is_value e.value ≡ true) × (stays_within key e.place e.change ≡ true) × (entries_from (λ c. c) key (e.place + 1) es ≡ true)
entry_tests key least e es a = first_test (nat_le least e.place) (is_boundary key e.place) (is_value e.value) (stays_within key e.place e.change) (entries_from (λ c. c) key (e.place + 1) es) a

-- The version says each value, and the kind each change.
abbrev pub are_small : Version → List (Entry (Option Change)) → Bool
are_small version es = list_all (λ e. nat_le e.value (greatest version)) es

abbrev pub have_allowed : Kind → List (Entry (Option Change)) → Bool
have_allowed kind es = list_all (λ e. is_allowed kind e.change) es

ascend : (key : List ℕ) (least : ℕ) (es : List (Entry (Option Change))) → entries_from (λ c. c) key least es ≡ true → Ascend least (length key) es
ascend key least [] a = tt
ascend key least (e ∷ es) a =
    let t = entry_tests key least e es a in
    (leb-true least e.place t.0, leb-true e.place (length key) (first_so (nat_le e.place (length key)) _ t.1), ltb-true 0 e.value (first_so (nat_lt 0 e.value) (nat_le e.value 255) t.2), ascend key (e.place + 1) es t.4)

seams : (version : Version) (key : List ℕ) (least : ℕ) (es : List (Entry (Option Change))) → entries_from (λ c. c) key least es ≡ true → are_small version es ≡ true → AllSeams version key es
seams version key least [] a v = tt
seams version key least (e ∷ es) a v =
    let t = entry_tests key least e es a in
    (t.1, leb-true e.value (greatest version) (first_so (nat_le e.value (greatest version)) (are_small version es) v), seams version key (e.place + 1) es t.4 (second_so (nat_le e.value (greatest version)) (are_small version es) v))

changes-allowed : (kind : Kind) (es : List (Entry (Option Change))) → have_allowed kind es ≡ true → are_allowed kind (changes_of es) ≡ true
changes-allowed kind [] w = refl
changes-allowed kind (e ∷ es) w = by e.change (first_so (is_allowed kind e.change) (have_allowed kind es) w) (changes-allowed kind es (second_so (is_allowed kind e.change) (have_allowed kind es) w))
  where
    by : (o : Option Change) → is_allowed kind o ≡ true → are_allowed kind (changes_of es) ≡ true → are_allowed kind (onto_changes e.place o (changes_of es)) ≡ true
    by None h more = more
    by (Some c) h more = and_from (is_allowed kind (Some c)) (are_allowed kind (changes_of es)) h more

pub all-values : (version : Version) (whole : List ℕ) (at : ℕ) (key : List ℕ) (es : List (Entry (Option Change))) → AllSeams version whole es → AllValues version (elements_for at key es)
all-values version whole at [] [] s = tt
all-values version whole at [] (e ∷ es) s = (s.1, tt)
all-values version whole at (b ∷ key) [] s = all-values version whole (at + 1) key [] tt
all-values version whole at (b ∷ key) (e ∷ es) s = by (eqb e.place at) (all-values version whole (at + 1) key es s.2) (all-values version whole (at + 1) key (e ∷ es) s)
  where
    by : (t : Bool) → AllValues version (elements_for (at + 1) key es) → AllValues version (elements_for (at + 1) key (e ∷ es)) → AllValues version (cond t (Value e.value ∷ Letter b ∷ elements_for (at + 1) key es) (Letter b ∷ elements_for (at + 1) key (e ∷ es)))
    by true h k = (s.1, h)
    by false h k = k

pub no_two : (at : ℕ) (key : List ℕ) (es : List (Entry (Option Change))) → two_values false (elements_for at key es) ≡ false
no_two at [] [] = refl
no_two at [] (e ∷ es) = refl
no_two at (b ∷ key) [] = no_two (at + 1) key []
no_two at (b ∷ key) (e ∷ es) = by (eqb e.place at) (no_two (at + 1) key es) (no_two (at + 1) key (e ∷ es))
  where
    by : (t : Bool) → two_values false (elements_for (at + 1) key es) ≡ false → two_values false (elements_for (at + 1) key (e ∷ es)) ≡ false
        → two_values false (cond t (Value e.value ∷ Letter b ∷ elements_for (at + 1) key es) (Letter b ∷ elements_for (at + 1) key (e ∷ es))) ≡ false
    by true h k = h
    by false h k = k

-- the changes of entries are listed as they are
changes-ascend : (key : List ℕ) (least at : ℕ) (es : List (Entry (Option Change))) → at ≤ least → entries_from (λ c. c) key least es ≡ true → ascend_on key at (map (λ b. b.place) (changes_of es)) ≡ true
changes-ascend key least at [] le a = refl
changes-ascend key least at (e ∷ es) le a =
    let t = entry_tests key least e es a in
    let near : least ≤ e.place = leb-true least e.place t.0 in
    by e.place e.change (le-leb at e.place (omega arith)) t.1 (changes-ascend key (e.place + 1) at es (omega arith) t.4) (changes-ascend key (e.place + 1) (e.place + 1) es (omega arith) t.4)
  where
    by : (p : ℕ) (o : Option Change) → nat_le at p ≡ true → is_boundary key p ≡ true → ascend_on key at (map (λ b. b.place) (changes_of es)) ≡ true → ascend_on key (p + 1) (map (λ b. b.place) (changes_of es)) ≡ true
        → ascend_on key at (map (λ b. b.place) (onto_changes p o (changes_of es))) ≡ true
    by p None h k more next = more
    by p (Some c) h k more next = and_from (nat_le at p && is_boundary key p) (ascend_on key (p + 1) (map (λ b. b.place) (changes_of es))) (and_from (nat_le at p) (is_boundary key p) h k) next

changes-within : (key : List ℕ) (least : ℕ) (es : List (Entry (Option Change))) → entries_from (λ c. c) key least es ≡ true → are_within key (changes_of es) ≡ true
changes-within key least [] a = refl
changes-within key least (e ∷ es) a = let t = entry_tests key least e es a in by e.place e.change t.3 (changes-within key (e.place + 1) es t.4)
  where
    by : (p : ℕ) (o : Option Change) → stays_within key p o ≡ true → are_within key (changes_of es) ≡ true → are_within key (onto_changes p o (changes_of es)) ≡ true
    by p None s more = more
    by p (Some c) s more =
        let short = first_so (fits_usize p) (can_be_written c) (first_so (fits_usize p && can_be_written c) (keeps_within key p c) s) in
        and_from (lists_within key p (Some c)) (are_within key (changes_of es)) (and_from (fits_usize p) (stays_within key p (Some c)) short s) more

-- each of them belongs to a value
one_is : (p : ℕ) → eqb p p ≡ true
one_is p = grind (arith, nat_tests)

changes-belong : (form : Form) (marks : List PatternElement) (es : List (Entry (Option Change))) → ((p : ℕ) → list_any (λ v. eqb v.0 p) (pairs es) ≡ true → has_value_at marks p ≡ true) → AllBelong form marks (changes_of es)
changes-belong form marks [] f = tt
changes-belong form marks (e ∷ es) f = by e.change (changes-belong form marks es (λ p h. f p (or_right (eqb e.place p) (list_any (λ v. eqb v.0 p) (pairs es)) h)))
  where
    by : (o : Option Change) → AllBelong form marks (changes_of es) → AllBelong form marks (onto_changes e.place o (changes_of es))
    by None h = h
    by (Some c) h = ((refl, f e.place (or_left (eqb e.place e.place) (list_any (λ v. eqb v.0 e.place) (pairs es)) (one_is e.place))), h)

-- the change at a place below all others, and at that of an entry
none_at : (key : List ℕ) (least p : ℕ) (es : List (Entry (Option Change))) → p < least → entries_from (λ c. c) key least es ≡ true → change_at p (changes_of es) ≡ None
none_at key least p [] lt a = refl
none_at key least p (e ∷ es) lt a =
    let t = entry_tests key least e es a in
    let near : least ≤ e.place = leb-true least e.place t.0 in
    by e.place e.change (apart_from e.place p (omega arith)) (none_at key (e.place + 1) p es (omega arith) t.4)
  where
    apart_from : (a b : ℕ) → b < a → eqb a b ≡ false
    apart_from a b h = grind (arith, nat_tests)

    by : (q : ℕ) (o : Option Change) → eqb q p ≡ false → change_at p (changes_of es) ≡ None → change_at p (onto_changes q o (changes_of es)) ≡ None
    by q None d h = h
    by q (Some c) d h = ap (λ (t : Bool). cond t (Some c) (change_at p (changes_of es))) d ∙ h

abbrev again : List Break → ℕ × ℕ → Entry (Option Change)
again said v = record { place = v.0; value = v.1; change = change_at v.0 said }

restored : (key : List ℕ) (least : ℕ) (said : List Break) (es : List (Entry (Option Change))) → entries_from (λ c. c) key least es ≡ true
    → ((p : ℕ) → least ≤ p → change_at p said ≡ change_at p (changes_of es)) → map (again said) (pairs es) ≡ es
restored key least said [] a f = refl
restored key least said (e ∷ es) a f =
    let t = entry_tests key least e es a in
    let near : least ≤ e.place = leb-true least e.place t.0 in
    let here : change_at e.place said ≡ e.change = f e.place near ∙ own e.place e.change (none_at key (e.place + 1) e.place es (omega arith) t.4) in
    let rest = restored key (e.place + 1) said es t.4 (λ p h. f p (omega arith) ∙ past e.place e.change p (after e.place p h)) in
    λ i. record { place = e.place; value = e.value; change = here i } ∷ rest i
  where
    own : (q : ℕ) (o : Option Change) → change_at q (changes_of es) ≡ None → change_at q (onto_changes q o (changes_of es)) ≡ o
    own q None h = h
    own q (Some c) h = ap (λ (t : Bool). cond t (Some c) (change_at q (changes_of es))) (one_is q)

    after : (q p : ℕ) → q + 1 ≤ p → eqb q p ≡ false
    after q p h = grind (arith, nat_tests)

    past : (q : ℕ) (o : Option Change) (p : ℕ) → eqb q p ≡ false → change_at p (onto_changes q o (changes_of es)) ≡ change_at p (changes_of es)
    past q None p d = refl
    past q (Some c) p d = ap (λ (t : Bool). cond t (Some c) (change_at p (changes_of es))) d

-- a key with a letter is written as some byte
some_byte : (version : Version) (token : List ℕ) (ms : List PatternElement) (key : List ℕ) → elements_of version token ≡ Some ms → key_of ms ≡ key → has_letter key ≡ true → nat_lt 0 (length token) ≡ true
some_byte version [] ms key m k letter =
    let none : [] ≡ ms = cc in
    let empty : [] ≡ key = ap key_of none ∙ k in
    let bad : has_letter [] ≡ true = ap has_letter empty ∙ letter in absurd cc
some_byte version (b ∷ token) ms key m k letter = above (length token)
  where
    above : (n : ℕ) → nat_lt 0 (suc n) ≡ true
    above n = grind (arith, nat_tests)

module _ (in_order : EntriesInOrder (Option Change)) (form : Form) (whole : List ℕ) (es : List (Entry (Option Change))) (u : IsUtf8 whole) (letter : has_letter whole ≡ true) (v : are_small form.version es ≡ true) (w : have_allowed form.kind es ≡ true) (a : are_entries (λ c. c) whole es ≡ true) where
  a_each : entries_from (λ c. c) whole 0 es ≡ true
  a_each = sym (in_order (λ c. c) whole es) ∙ a

  abbrev the_marks : List PatternElement
  the_marks = elements_for 0 whole es

  abbrev the_breaks : List Break
  the_breaks = changes_of es

  p_seams : AllSeams form.version whole es
  p_seams = seams form.version whole 0 es a_each v

  p_spelt : AllValues form.version the_marks
  p_spelt = all-values form.version whole 0 whole es p_seams

  p_marks : elements_of form.version (pattern_token form.version whole es) ≡ Some the_marks
  p_marks = marks-again form.version the_marks p_spelt

  p_key : key_of the_marks ≡ whole
  p_key = key_again 0 whole es

  p_values : values_from 0 the_marks ≡ pairs es
  p_values = values_again 0 (length whole) whole es (omega arith) (ascend whole 0 es a_each)

  p_within : are_within whole the_breaks ≡ true
  p_within = changes-within whole 0 es a_each

  p_writable : list_all (is_sayable form.kind) the_breaks ≡ true
  p_writable = listed-sayable form.kind whole the_breaks p_within (changes-allowed form.kind es w)

  p_belong : AllBelong form the_marks the_breaks
  p_belong = changes-belong form the_marks es (λ p h. ap (λ (vs : List (ℕ × ℕ)). list_any (λ v. eqb v.0 p) vs) p_values ∙ h)

  p_toks : slice_split (λ b. eqb b 32) (pattern_token form.version whole es ++ later_tokens the_breaks) ≡ pattern_token form.version whole es ∷ tokens_for the_breaks
  p_toks = tokens_again form (pattern_token form.version whole es) the_breaks (marks-free 32 space form.version the_marks p_spelt) p_writable

  abbrev read_marks : List ℕ → List PatternElement
  read_marks token = unwrap_or (elements_of form.version token) []

  pub pattern-faultless : Faultless form (pattern_line form.version whole es)
  pattern-faultless =
      let first = pattern_token form.version whole es in
      record {
        utf8 = is_utf8-from_IsUtf8 (pattern_line form.version whole es) (IsUtf8-append (112 ∷ 32 ∷ []) (first ++ later_tokens the_breaks) (two_ascii 112 32 (omega arith) (omega arith)) (IsUtf8-append first (later_tokens the_breaks) (marks-utf8 form.version whole [] [] whole 0 es refl refl p_seams u) (utf8_each form the_breaks p_writable)));
        known = known_by (eqb (length (pattern_line form.version whole es)) 0);
        token = ap (λ (ts : List (List ℕ)). not ((nat_lt 0 (length (get_or ts 0 [])) && is_some (pattern_bytes form.version (get_or ts 0 []))) && list_all is_readable (drop 1 ts))) p_toks
            ∙ ap not (and_from (nat_lt 0 (length first) && is_some (pattern_bytes form.version first)) (list_all is_readable (tokens_for the_breaks)) (and_from (nat_lt 0 (length first)) (is_some (pattern_bytes form.version first)) (some_byte form.version first the_marks whole p_marks p_key letter) (signs-again form.version the_marks p_spelt)) (readable_each form the_breaks p_writable));
        value = ap (λ (ts : List (List ℕ)). is_none (elements_of form.version (get_or ts 0 []))) p_toks ∙ ap is_none p_marks;
        pattern = ap (λ (ts : List (List ℕ)). two_values false (read_marks (get_or ts 0 []))) p_toks ∙ ap (λ (o : Option (List PatternElement)). two_values false (unwrap_or o [])) p_marks ∙ no_two 0 whole es;
        letters = ap (λ (ts : List (List ℕ)). not (has_letter (key_of (read_marks (get_or ts 0 []))))) p_toks ∙ ap (λ (o : Option (List PatternElement)). not (has_letter (key_of (unwrap_or o [])))) p_marks ∙ ap (λ (k : List ℕ). not (has_letter k)) p_key ∙ ap not letter;
        number = ap (λ (ts : List (List ℕ)). not (list_all (λ token. list_all is_number (numerals_of token)) (drop 1 ts))) p_toks ∙ ap not (numbers_each form the_breaks p_writable);
        place = ap (λ (ts : List (List ℕ)). not (ascend_on (key_of (read_marks (get_or ts 0 []))) 0 (map place_of_token (drop 1 ts)))) p_toks
            ∙ ap (λ (o : Option (List PatternElement)). not (ascend_on (key_of (unwrap_or o [])) 0 (map place_of_token (tokens_for the_breaks)))) p_marks
            ∙ ap (λ (k : List ℕ). not (ascend_on k 0 (map place_of_token (tokens_for the_breaks)))) p_key ∙ ap not (ap (ascend_on whole 0) (places_each form the_breaks p_writable) ∙ changes-ascend whole 0 0 es (omega arith) a_each);
        change = ap (λ (ts : List (List ℕ)). not (list_all (is_good_later_token form true (read_marks (get_or ts 0 [])) (key_of (read_marks (get_or ts 0 [])))) (drop 1 ts))) p_toks
            ∙ ap (λ (o : Option (List PatternElement)). not (list_all (is_good_later_token form true (unwrap_or o []) (key_of (unwrap_or o []))) (tokens_for the_breaks))) p_marks
            ∙ ap (λ (k : List ℕ). not (list_all (is_good_later_token form true the_marks k) (tokens_for the_breaks))) p_key
            ∙ ap not (good_each form true the_marks whole the_breaks p_writable p_within (λ e. p_belong));
      }

  pub pattern-spelt : pattern_of_line form.version (pattern_line form.version whole es) ≡ Some (whole, es)
  pattern-spelt =
      ap (λ (ts : List (List ℕ)). Some (key_of (read_marks (get_or ts 0 [])), map (again (map break_of_token (drop 1 ts))) (values_from 0 (read_marks (get_or ts 0 []))))) p_toks
      ∙ ap (λ (o : Option (List PatternElement)). Some (key_of (unwrap_or o []), map (again (map break_of_token (tokens_for the_breaks))) (values_from 0 (unwrap_or o [])))) p_marks
      ∙ (λ i. Some (p_key i, map (again (listed_each form the_breaks p_writable i)) (p_values i)))
      ∙ ap (λ (xs : List (Entry (Option Change))). Some (whole, xs)) (restored whole 0 the_breaks es a_each (λ p h. refl))

  pub pattern-feed : Free 10 (pattern_line form.version whole es)
  pattern-feed = (refl, (refl, free-append 10 (pattern_token form.version whole es) (later_tokens the_breaks) (marks-free 10 feed form.version the_marks p_spelt) (feed_each form the_breaks p_writable)))
