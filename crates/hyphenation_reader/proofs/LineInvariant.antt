-- A line that fails no test by itself spells a key with well-formed entries, or a word with breaks that may be listed.
use Rattle.std.proofs.Common.{◌≡◌, ℕ, ◌+◌, ◌-◌, ◌^◌, ◌<◌, ◌≤◌, Bool, true, false, cond, not, ◌==◌, ◌&&◌, ◌||◌, eqb, nat_le, nat_lt, List, [], ◌∷◌, ◌++◌, length, map, take, drop, get_or, Option, Some, None, unwrap_or, refl, ap, subst, ◌∙◌, arith}
use Rattle.std.specs.Prelude.{IsUtf8, IsCharBoundary}
use Rattle.std.specs.Option.{option_map, option_and_then, is_none}
use Rattle.std.specs.List.{find, list_all, AllByRecursion}
use Rattle.std.specs.Str.{is_utf8}
use Rattle.std.proofs.lemmas.Bool.{and_from, and_parts, or_left, or_right, not-false}
use Rattle.std.proofs.lemmas.Bool.Decides.{nat_tests}
use Rattle.std.proofs.lemmas.Str.{IsUtf8-from_is_utf8, is_utf8-from_IsUtf8, IsUtf8-nil}
use Rattle.hyphenation_breaks.specs.Break.{Break, Change, ascend_on, is_boundary, keeps_within}
use Rattle.std.specs.Cmp.{first_so, second_so}
use Rattle.hyphenation_grammar.specs.declared.form.Form.{Form}
use Rattle.hyphenation_breaks.specs.Invariant.{fits_usize, can_be_written, has_letter, is_value, stays_within, lists_within, are_listed, IsPattern, IsException}
use Rattle.hyphenation_grammar.specs.Lines.{is_digit, has_no_leading_zero, is_number, is_number_to_255, number}
use Rattle.hyphenation_grammar.specs.Tokens.{element_of, is_unescaped, is_unescaped_digit, braced_value, step_outside, step_inside, elements_from, elements_of, pattern_bytes, text_spelt, key_of, values_from, two_values, has_comma, parts_of, numerals_of, place_of_token, change_of_token, has_five_parts}
use Rattle.hyphenation_grammar.specs.Items.{is_pattern_line, is_exception_line, tokens_of, first_token_of, later_tokens_of, pattern_elements, key_of_line, word_of_line, counted_text, break_of_token, breaks_of_line, change_at, entries_of_line}
use Rattle.hyphenation_grammar.specs.Judging.{is_item_line, is_extended, has_value_at, is_good_later_token, fails, own_cause}
use Rattle.hyphenation_breaks.specs.declared.entry.Entry.{Entry}
use Rattle.hyphenation_grammar.specs.declared.Cause.TheVariants.{NotUtf8, Header, Language, Minima, UnknownLine, Token, Value as BadValue, Pattern, NoLetters, Number, Place, Change as BadChange}
use Rattle.hyphenation_grammar.specs.declared.form.Version.{Version}
use Rattle.hyphenation_grammar.specs.declared.form.Version.TheVariants.{First, Second}
use Rattle.hyphenation_grammar.specs.declared.tokens.EscapedByte.{EscapedByte}
use Rattle.hyphenation_grammar.specs.declared.tokens.PatternElement.{PatternElement}
use Rattle.hyphenation_grammar.specs.declared.tokens.PatternElement.TheVariants.{Letter, Value}
use Rattle.hyphenation_grammar.specs.Laws.{PiecesAreText, PartsAreText, SpeltIsText, KeysAreText}
use Rattle.hyphenation_breaks.specs.Laws.{BoundaryIsOfChars, EntriesInOrder, entries_from}
use Rattle.hyphenation_reader.proofs.JudgingLine.{after-utf8}
use Rattle.hyphenation_reader.proofs.LineCauses.{in_front, five, other_sort}

pub off_right : (a b : Bool) → (a && b) ≡ false → a ≡ true → b ≡ false
off_right true b e h = e
off_right false b e h = absurd cc

pub found_none : {X : Type 0} (p : X → Bool) (x : X) (xs : List X) → find p (x ∷ xs) ≡ None → (p x ≡ false) × (find p xs ≡ None)
found_none {X} p x xs e = by (p x) refl e
  where
    by : (t : Bool) → p x ≡ t → cond t (Some x) (find p xs) ≡ None → (p x ≡ false) × (find p xs ≡ None)
    by true is h = absurd cc
    by false is h = (is, h)

-- the tests that such a line passes
pub record Passes (form : Form) (number : ℕ) (line : List ℕ) : Type 0 where
  pub utf8 : fails form number line NotUtf8 ≡ false
  pub header : fails form number line Header ≡ false
  pub language : fails form number line Language ≡ false
  pub minima : fails form number line Minima ≡ false
  pub known : fails form number line UnknownLine ≡ false
  pub token : fails form number line Token ≡ false
  pub value : fails form number line BadValue ≡ false
  pub pattern : fails form number line Pattern ≡ false
  pub letters : fails form number line NoLetters ≡ false
  pub numbers : fails form number line Number ≡ false
  pub place : fails form number line Place ≡ false
  pub change : fails form number line BadChange ≡ false

pub passes : (form : Form) (number : ℕ) (line : List ℕ) → own_cause form number line ≡ None → Passes form number line
passes form number line e =
    let utf8 = found_none (fails form number line) NotUtf8 (Header ∷ Language ∷ Minima ∷ UnknownLine ∷ Token ∷ BadValue ∷ Pattern ∷ NoLetters ∷ Number ∷ Place ∷ BadChange ∷ []) e in
    let header = found_none (fails form number line) Header (Language ∷ Minima ∷ UnknownLine ∷ Token ∷ BadValue ∷ Pattern ∷ NoLetters ∷ Number ∷ Place ∷ BadChange ∷ []) utf8.1 in
    let language = found_none (fails form number line) Language (Minima ∷ UnknownLine ∷ Token ∷ BadValue ∷ Pattern ∷ NoLetters ∷ Number ∷ Place ∷ BadChange ∷ []) header.1 in
    let minima = found_none (fails form number line) Minima (UnknownLine ∷ Token ∷ BadValue ∷ Pattern ∷ NoLetters ∷ Number ∷ Place ∷ BadChange ∷ []) language.1 in
    let known = found_none (fails form number line) UnknownLine (Token ∷ BadValue ∷ Pattern ∷ NoLetters ∷ Number ∷ Place ∷ BadChange ∷ []) minima.1 in
    let token = found_none (fails form number line) Token (BadValue ∷ Pattern ∷ NoLetters ∷ Number ∷ Place ∷ BadChange ∷ []) known.1 in
    let value = found_none (fails form number line) BadValue (Pattern ∷ NoLetters ∷ Number ∷ Place ∷ BadChange ∷ []) token.1 in
    let pattern = found_none (fails form number line) Pattern (NoLetters ∷ Number ∷ Place ∷ BadChange ∷ []) value.1 in
    let letters = found_none (fails form number line) NoLetters (Number ∷ Place ∷ BadChange ∷ []) pattern.1 in
    let numbers = found_none (fails form number line) Number (Place ∷ BadChange ∷ []) letters.1 in
    let place = found_none (fails form number line) Place (BadChange ∷ []) numbers.1 in
    let change = found_none (fails form number line) BadChange [] place.1 in
    record { utf8 = utf8.0; header = header.0; language = language.0; minima = minima.0; known = known.0; token = token.0; value = value.0; pattern = pattern.0; letters = letters.0; numbers = numbers.0; place = place.0; change = change.0 }

-- what is known of texts, from the crates below
pub record TextLaws : Type 0 where
  pub pieces : PiecesAreText
  pub parts : PartsAreText
  pub spelt : SpeltIsText
  pub keys : KeysAreText
  pub boundary : BoundaryIsOfChars
  pub order : EntriesInOrder (Option Change)

-- each of the texts
abbrev AllUtf8 : List (List ℕ) → Type 0
AllUtf8 ts = AllByRecursion IsUtf8 ts

first-utf8 : (ts : List (List ℕ)) → AllUtf8 ts → IsUtf8 (get_or ts 0 [])
first-utf8 [] h = IsUtf8-nil
first-utf8 (t ∷ ts) h = h.0

text_read : TextLaws → (token : List ℕ) → IsUtf8 token → IsUtf8 (unwrap_or (text_spelt token) [])
text_read laws token u = by (text_spelt token) refl
  where
    by : (o : Option (List ℕ)) → text_spelt token ≡ o → IsUtf8 (unwrap_or o [])
    by None is = IsUtf8-nil
    by (Some text) is = laws.spelt token text u is

-- what a token that can be read and has numbers says
abbrev pub has_numbers : List ℕ → Bool
has_numbers token = list_all is_number (numerals_of token)

number_short : (text : List ℕ) → is_number text ≡ true → fits_usize (number text) ≡ true
number_short text e = second_so (list_all is_digit text && has_no_leading_zero text) (nat_lt (number text) (2 ^ 64)) e

first_short : (ps : List (List ℕ)) → list_all is_number ps ≡ true → fits_usize (number (get_or ps 0 [])) ≡ true
first_short [] e = refl
first_short (p ∷ ps) e = number_short p (first_so (is_number p) (list_all is_number ps) e)

more_than_one : (n : ℕ) → nat_lt 1 n ≡ true → 1 < n
more_than_one n e = grind (arith, nat_tests)

place_short : (token : List ℕ) → has_numbers token ≡ true → fits_usize (place_of_token token) ≡ true
place_short token e = by (has_comma token) refl e
  where
    by : (t : Bool) → has_comma token ≡ t → list_all is_number (cond t (take (length (parts_of token) - 1) (parts_of token)) (parts_of token)) ≡ true → fits_usize (place_of_token token) ≡ true
    by true is h =
        let two = more_than_one (length (parts_of token)) is in
        number_short (get_or (parts_of token) 0 []) (in_front is_number (parts_of token) (length (parts_of token) - 1) 0 h (omega arith) (omega arith))
    by false is h = first_short (parts_of token) h

four : (a b c d : Bool) → a ≡ true → b ≡ true → c ≡ true → d ≡ true → (a && b && c && d) ≡ true
four a b c d x y z w = rw (x, y, z, w) refl

change_said : TextLaws → (token : List ℕ) → IsUtf8 token → has_comma token ≡ true → has_numbers token ≡ true → has_five_parts token ≡ true → can_be_written (change_of_token token) ≡ true
change_said laws token u comma e whole =
    let n : length (parts_of token) ≡ 5 = five (parts_of token) (first_so (length (parts_of token) == 5) (nat_lt 0 (length (get_or (parts_of token) 4 []))) whole) in
    let h : list_all is_number (take (length (parts_of token) - 1) (parts_of token)) ≡ true = subst (λ (t : Bool). list_all is_number (cond t (take (length (parts_of token) - 1) (parts_of token)) (parts_of token)) ≡ true) comma e in
    four (fits_usize (change_of_token token).left) (fits_usize (change_of_token token).right) (fits_usize (change_of_token token).breakpoint) (is_utf8 (change_of_token token).substitution)
    (number_short (get_or (parts_of token) 1 []) (in_front is_number (parts_of token) (length (parts_of token) - 1) 1 h (omega arith) (omega arith)))
    (number_short (get_or (parts_of token) 2 []) (in_front is_number (parts_of token) (length (parts_of token) - 1) 2 h (omega arith) (omega arith)))
    (number_short (get_or (parts_of token) 3 []) (in_front is_number (parts_of token) (length (parts_of token) - 1) 3 h (omega arith) (omega arith)))
    (is_utf8-from_IsUtf8 (change_of_token token).substitution (text_read laws (get_or (parts_of token) 4 []) (laws.parts 4 token u)))

three : (a b c : Bool) → a ≡ true → b ≡ true → c ≡ true → (a && b && c) ≡ true
three a b c x y z = rw (x, y, z) refl

-- a change that a good token says can be said, and keeps within the text
module _ (laws : TextLaws) (form : Form) (in_pattern : Bool) (marks : List PatternElement) (text : List ℕ) where
  stays : (token : List ℕ) → IsUtf8 token → has_numbers token ≡ true → is_good_later_token form in_pattern marks text token ≡ true → stays_within text (place_of_token token) (break_of_token token).change ≡ true
  stays token u numbers e = by (has_comma token) refl e
    where
      by : (t : Bool) → has_comma token ≡ t → cond t (is_extended form.kind && has_five_parts token && keeps_within text (place_of_token token) (change_of_token token) && (not in_pattern || has_value_at marks (place_of_token token))) (not in_pattern) ≡ true
          → stays_within text (place_of_token token) (cond t (Some (change_of_token token)) None) ≡ true
      by true is h =
          let most = first_so (is_extended form.kind && has_five_parts token && keeps_within text (place_of_token token) (change_of_token token)) (not in_pattern || has_value_at marks (place_of_token token)) h in
          let whole = second_so (is_extended form.kind) (has_five_parts token) (first_so (is_extended form.kind && has_five_parts token) (keeps_within text (place_of_token token) (change_of_token token)) most) in
          three (fits_usize (place_of_token token)) (can_be_written (change_of_token token)) (keeps_within text (place_of_token token) (change_of_token token)) (place_short token numbers) (change_said laws token u is numbers whole)
          (second_so (is_extended form.kind && has_five_parts token) (keeps_within text (place_of_token token) (change_of_token token)) most)
      by false is h = refl

  pub changes-stay : (later : List (List ℕ)) → AllUtf8 later → list_all has_numbers later ≡ true → list_all (is_good_later_token form in_pattern marks text) later ≡ true → (place : ℕ)
      → stays_within text place (change_at place (map break_of_token later)) ≡ true
  changes-stay [] u n e place = refl
  changes-stay (token ∷ later) u n e place =
      by (eqb (place_of_token token) place) refl (changes-stay later u.1 (second_so (has_numbers token) (list_all has_numbers later) n) (second_so (is_good_later_token form in_pattern marks text token) (list_all (is_good_later_token form in_pattern marks text) later) e) place)
    where
      equal : (a b : ℕ) → eqb a b ≡ true → a ≡ b
      equal a b h = grind (arith, nat_tests)

      by : (t : Bool) → eqb (place_of_token token) place ≡ t → stays_within text place (change_at place (map break_of_token later)) ≡ true → stays_within text place (cond t (break_of_token token).change (change_at place (map break_of_token later))) ≡ true
      by true is more =
          subst (λ (at : ℕ). stays_within text at (break_of_token token).change ≡ true) (equal (place_of_token token) place is)
          (stays token u.0 (first_so (has_numbers token) (list_all has_numbers later) n) (first_so (is_good_later_token form in_pattern marks text token) (list_all (is_good_later_token form in_pattern marks text) later) e))
      by false is more = more

  token-places : (later : List (List ℕ)) → map (λ b. b.place) (map break_of_token later) ≡ map place_of_token later
  token-places [] = refl
  token-places (token ∷ later) = ap (λ places. place_of_token token ∷ places) (token-places later)

  tokens-stay : (later : List (List ℕ)) → AllUtf8 later → list_all has_numbers later ≡ true → list_all (is_good_later_token form in_pattern marks text) later ≡ true
      → list_all (λ b. lists_within text b.place b.change) (map break_of_token later) ≡ true
  tokens-stay [] u n good = refl
  tokens-stay (token ∷ later) u n good =
      let numbers = and_parts (has_numbers token) (list_all has_numbers later) n in
      let all = and_parts (is_good_later_token form in_pattern marks text token) (list_all (is_good_later_token form in_pattern marks text) later) good in
      and_from (lists_within text (place_of_token token) (break_of_token token).change) (list_all (λ b. lists_within text b.place b.change) (map break_of_token later))
      (and_from (fits_usize (place_of_token token)) (stays_within text (place_of_token token) (break_of_token token).change) (place_short token numbers.0) (stays token u.0 numbers.0 all.0))
      (tokens-stay later u.1 numbers.1 all.1)

  pub listed-stand : (later : List (List ℕ)) → AllUtf8 later → list_all has_numbers later ≡ true → ascend_on text 0 (map place_of_token later) ≡ true → list_all (is_good_later_token form in_pattern marks text) later ≡ true
      → are_listed (λ b. b) text (map break_of_token later) ≡ true
  listed-stand later u n places good =
      and_from (ascend_on text 0 (map (λ b. b.place) (map break_of_token later))) (list_all (λ b. lists_within text b.place b.change) (map break_of_token later))
      (ap (ascend_on text 0) (token-places later) ∙ places) (tokens-stay later u n good)

-- values are digits
abbrev AreSmall : List PatternElement → Type 0
AreSmall [] = Unit {0}
AreSmall (Letter b ∷ ms) = AreSmall ms
AreSmall (Value v ∷ ms) = (v ≤ 255) × AreSmall ms

mark-small : (s : EscapedByte) (ms : List PatternElement) → AreSmall ms → AreSmall (element_of s ∷ ms)
mark-small s ms more = by (not s.escaped && is_digit s.byte) refl
  where
    small : is_digit s.byte ≡ true → s.byte - 48 ≤ 255
    small e = grind (arith, nat_tests)

    by : (t : Bool) → (not s.escaped && is_digit s.byte) ≡ t → AreSmall (cond t (Value (s.byte - 48)) (Letter s.byte) ∷ ms)
    by true e = (small (second_so (not s.escaped) (is_digit s.byte) e), more)
    by false e = more

-- or numbers in braces
abbrev AreSmallThen : Option (List PatternElement) → Type 0
AreSmallThen None = Unit {0}
AreSmallThen (Some ms) = AreSmall ms

abbrev rest_of : Version → List EscapedByte → Option (List ℕ) × List PatternElement → Option (List PatternElement)
rest_of version ss step = option_map (λ marks. step.1 ++ marks) (elements_from version step.0 ss)

letters-small : (s : EscapedByte) (o : Option (List PatternElement)) → AreSmallThen o → AreSmallThen (option_map (λ marks. (element_of s ∷ []) ++ marks) o)
letters-small s None h = tt
letters-small s (Some ms) h = mark-small s ms h

nothing-small : (o : Option (List PatternElement)) → AreSmallThen o → AreSmallThen (option_map (λ marks. [] ++ marks) o)
nothing-small None h = tt
nothing-small (Some ms) h = h

value-small : (v : ℕ) → v ≤ 255 → (o : Option (List PatternElement)) → AreSmallThen o → AreSmallThen (option_map (λ marks. (Value v ∷ []) ++ marks) o)
value-small v small None h = tt
value-small v small (Some ms) h = (small, h)

byte_small : (n : ℕ) → nat_le n 255 ≡ true → n ≤ 255
byte_small n e = grind (arith, nat_tests)

braced-small : (ss : List EscapedByte) → AreSmallThen (elements_from Second None ss) → (digits : List ℕ) → AreSmallThen (option_and_then (rest_of Second ss) (option_map (λ value. (None, Value value ∷ [])) (braced_value digits)))
braced-small ss more digits = by (is_number_to_255 digits) (nat_le 10 (number digits)) refl
  where
    by : (t u : Bool) → is_number_to_255 digits ≡ t
        → AreSmallThen (option_and_then (rest_of Second ss) (option_map (λ value. (None, Value value ∷ [])) (option_and_then (λ value. cond (nat_le 10 value) (Some value) None) (cond t (Some (number digits)) None))))
    by false u is = tt
    by true u is = at (nat_le 10 (number digits))
      where
        at : (w : Bool) → AreSmallThen (option_and_then (rest_of Second ss) (option_map (λ value. (None, Value value ∷ [])) (cond w (Some (number digits)) None)))
        at true = value-small (number digits) (byte_small (number digits) (second_so (is_number digits) (nat_le (number digits) 255) is)) (elements_from Second None ss) more
        at false = tt

outside-small : (s : EscapedByte) (ss : List EscapedByte) → ((digits : Option (List ℕ)) → AreSmallThen (elements_from Second digits ss)) → AreSmallThen (option_and_then (rest_of Second ss) (step_outside s))
outside-small s ss more = by (is_unescaped 123 s) (is_unescaped 125 s)
  where
    by : (t u : Bool) → AreSmallThen (option_and_then (rest_of Second ss) (cond t (Some (Some [], [])) (cond u None (Some (None, element_of s ∷ [])))))
    by true u = nothing-small (elements_from Second (Some []) ss) (more (Some []))
    by false true = tt
    by false false = letters-small s (elements_from Second None ss) (more None)

inside-small : (s : EscapedByte) (ss : List EscapedByte) (digits : List ℕ) → ((digits : Option (List ℕ)) → AreSmallThen (elements_from Second digits ss)) → AreSmallThen (option_and_then (rest_of Second ss) (step_inside digits s))
inside-small s ss digits more = by (is_unescaped 125 s) (is_unescaped_digit s)
  where
    by : (t d : Bool) → AreSmallThen (option_and_then (rest_of Second ss) (cond t (option_map (λ value. (None, Value value ∷ [])) (braced_value digits)) (cond d (Some (Some (digits ++ s.byte ∷ []), [])) None)))
    by true d = braced-small ss (more None) digits
    by false true = nothing-small (elements_from Second (Some (digits ++ s.byte ∷ [])) ss) (more (Some (digits ++ s.byte ∷ [])))
    by false false = tt

all-small : (version : Version) (ss : List EscapedByte) (digits : Option (List ℕ)) → AreSmallThen (elements_from version digits ss)
all-small version [] None = tt
all-small version [] (Some digits) = tt
all-small First (s ∷ ss) digits = letters-small s (elements_from First digits ss) (all-small First ss digits)
all-small Second (s ∷ ss) None = outside-small s ss (all-small Second ss)
all-small Second (s ∷ ss) (Some digits) = inside-small s ss digits (all-small Second ss)

values-small : (version : Version) (token : List ℕ) → AreSmall (unwrap_or (elements_of version token) [])
values-small version token = by (pattern_bytes version token)
  where
    marked : (o : Option (List PatternElement)) → AreSmallThen o → AreSmall (unwrap_or o [])
    marked None h = tt
    marked (Some ms) h = h

    by : (o : Option (List EscapedByte)) → AreSmall (unwrap_or (option_and_then (elements_from version None) o) [])
    by None = tt
    by (Some ss) = marked (elements_from version None ss) (all-small version ss None)

-- the values of elements that stand between characters of the key
module _ (laws : TextLaws) (key : List ℕ) (said : List Break) (within : (place : ℕ) → stays_within key place (change_at place said) ≡ true) where
  abbrev entry : ℕ × ℕ → Entry (Option Change)
  entry v = record { place = v.0; value = v.1; change = change_at v.0 said }

  all_four : (a b c d e : Bool) → a ≡ true → b ≡ true → c ≡ true → d ≡ true → e ≡ true → (a && b && c && d && e) ≡ true
  all_four a b c d e p q r s t = rw (p, q, r, s, t) refl

  not_above : (a b : ℕ) → a ≤ b → nat_le a b ≡ true
  not_above a b h = grind (arith, nat_tests)

  positive : (v : ℕ) → eqb v 0 ≡ false → v ≤ 255 → is_value v ≡ true
  positive v h le = grind (arith, nat_tests)

  -- each place on a boundary
  abbrev AreBetween : List (ℕ × ℕ) → Type 0
  AreBetween values = AllByRecursion (λ v. IsCharBoundary key v.0) values

  abbrev Stand : ℕ → List (ℕ × ℕ) → Type 0
  Stand least values = entries_from (λ c. c) key least (map entry values) ≡ true

  values-stand : (ms : List PatternElement) (at least : ℕ) (after : Bool) → AreBetween (values_from at ms) → AreSmall ms → two_values after ms ≡ false → least ≤ at + cond after 1 0 → Stand least (values_from at ms)
  values-stand [] at least after between small alone le = refl
  values-stand (Letter b ∷ ms) at least after between small alone le = values-stand ms (at + 1) least false between small (quiet after alone) (reach after le)
    where
      quiet : (t : Bool) → ((t && false) || two_values false ms) ≡ false → two_values false ms ≡ false
      quiet true h = h
      quiet false h = h

      reach : (t : Bool) → least ≤ at + cond t 1 0 → least ≤ at + 1 + 0
      reach true h = omega arith
      reach false h = omega arith
  values-stand (Value v ∷ ms) at least true between small alone le = absurd cc
  values-stand (Value v ∷ ms) at least false between small alone le =
      by (eqb v 0) refl between (λ h. values-stand ms at least true h small.1 alone (omega arith)) (λ h. values-stand ms at (at + 1) true h small.1 alone (omega arith))
    where
      by : (t : Bool) → eqb v 0 ≡ t → AreBetween (cond t (values_from at ms) ((at, v) ∷ values_from at ms)) → (AreBetween (values_from at ms) → Stand least (values_from at ms)) → (AreBetween (values_from at ms) → Stand (at + 1) (values_from at ms))
          → Stand least (cond t (values_from at ms) ((at, v) ∷ values_from at ms))
      by true e h none more = none h
      by false e h none more =
          all_four (nat_le least at) (is_boundary key at) (is_value v) (stays_within key at (change_at at said)) (entries_from (λ c. c) key (at + 1) (map entry (values_from at ms)))
          (not_above least at (omega arith)) ((laws.boundary key at).1 h.0) (positive v e small.0) (within at) (more h.1)

marks_read : TextLaws → (version : Version) (token : List ℕ) → IsUtf8 token → is_none (elements_of version token) ≡ false
    → IsUtf8 (key_of (unwrap_or (elements_of version token) [])) × AllByRecursion (λ v. IsCharBoundary (key_of (unwrap_or (elements_of version token) [])) v.0) (values_from 0 (unwrap_or (elements_of version token) []))
marks_read laws version token u e = by (elements_of version token) refl e
  where
    by : (o : Option (List PatternElement)) → elements_of version token ≡ o → is_none o ≡ false → IsUtf8 (key_of (unwrap_or o [])) × AllByRecursion (λ v. IsCharBoundary (key_of (unwrap_or o [])) v.0) (values_from 0 (unwrap_or o []))
    by None is h = absurd cc
    by (Some ms) is h = laws.keys version token ms u is

module _ (laws : TextLaws) (form : Form) (number : ℕ) (line : List ℕ) (none : own_cause form number line ≡ None) where
  passed : Passes form number line
  passed = passes form number line none

  line-utf8 : IsUtf8 line
  line-utf8 = IsUtf8-from_is_utf8 line (not-false (is_utf8 line) passed.utf8)

  first-token-utf8 : IsUtf8 (drop 2 line) → IsUtf8 (first_token_of line)
  first-token-utf8 u = first-utf8 (tokens_of line) (laws.pieces 32 (drop 2 line) (omega arith) u)

  later-utf8 : IsUtf8 (drop 2 line) → AllUtf8 (later_tokens_of line)
  later-utf8 u = after_first (tokens_of line) (laws.pieces 32 (drop 2 line) (omega arith) u)
    where
      after_first : (ts : List (List ℕ)) → AllUtf8 ts → AllUtf8 (drop 1 ts)
      after_first [] h = tt
      after_first (t ∷ ts) h = h.1

  item_test : (bad : Bool) → (is_item_line line && not bad) ≡ false → is_item_line line ≡ true → bad ≡ true
  item_test bad e item = not-false bad (off_right (is_item_line line) (not bad) e item)

  pub pattern-kept : is_pattern_line line ≡ true → IsPattern (λ c. c) (key_of_line form.version line) (entries_of_line form.version line)
  pattern-kept sort =
      let item : is_item_line line ≡ true = or_left (is_pattern_line line) (is_exception_line line) sort in
      let marks : is_none (elements_of form.version (first_token_of line)) ≡ false = off_right (is_pattern_line line) (is_none (elements_of form.version (first_token_of line))) passed.value sort in
      let rest : IsUtf8 (drop 2 line) = after-utf8 112 (omega arith) line line-utf8 sort in
      let read = marks_read laws form.version (first_token_of line) (first-token-utf8 rest) marks in
      let numbers : list_all has_numbers (later_tokens_of line) ≡ true = item_test (list_all has_numbers (later_tokens_of line)) passed.numbers item in
      let good : list_all (is_good_later_token form (is_pattern_line line) (pattern_elements form.version line) (counted_text form.version line)) (later_tokens_of line) ≡ true = item_test (list_all (is_good_later_token form (is_pattern_line line) (pattern_elements form.version line) (counted_text form.version line)) (later_tokens_of line)) passed.change item in
      let by_key : list_all (is_good_later_token form (is_pattern_line line) (pattern_elements form.version line) (key_of_line form.version line)) (later_tokens_of line) ≡ true = subst (λ (t : Bool). list_all (is_good_later_token form (is_pattern_line line) (pattern_elements form.version line) (cond t (key_of_line form.version line) (word_of_line line))) (later_tokens_of line) ≡ true) sort good in
      record {
        utf8 = read.0;
        letter = not-false (has_letter (key_of_line form.version line)) (off_right (is_pattern_line line) (not (has_letter (key_of_line form.version line))) passed.letters sort);
        ascend = laws.order (λ c. c) (key_of_line form.version line) (entries_of_line form.version line)
            ∙ values-stand laws (key_of_line form.version line) (breaks_of_line line) (changes-stay laws form (is_pattern_line line) (pattern_elements form.version line) (key_of_line form.version line) (later_tokens_of line) (later-utf8 rest) numbers by_key) (pattern_elements form.version line) 0 0 false read.1 (values-small form.version (first_token_of line))
            (off_right (is_pattern_line line) (two_values false (pattern_elements form.version line)) passed.pattern sort) (omega arith);
      }

  pub exception-kept : is_exception_line line ≡ true → IsException (λ b. b) (word_of_line line) (breaks_of_line line)
  exception-kept sort =
      let item : is_item_line line ≡ true = or_right (is_pattern_line line) (is_exception_line line) sort in
      let off : is_pattern_line line ≡ false = other_sort line sort in
      let places : ascend_on (counted_text form.version line) 0 (map place_of_token (later_tokens_of line)) ≡ true = item_test (ascend_on (counted_text form.version line) 0 (map place_of_token (later_tokens_of line))) passed.place item in
      let good : list_all (is_good_later_token form (is_pattern_line line) (pattern_elements form.version line) (counted_text form.version line)) (later_tokens_of line) ≡ true = item_test (list_all (is_good_later_token form (is_pattern_line line) (pattern_elements form.version line) (counted_text form.version line)) (later_tokens_of line)) passed.change item in
      let rest : IsUtf8 (drop 2 line) = after-utf8 101 (omega arith) line line-utf8 sort in
      let numbers : list_all has_numbers (later_tokens_of line) ≡ true = item_test (list_all has_numbers (later_tokens_of line)) passed.numbers item in
      let is : counted_text form.version line ≡ word_of_line line = ap (λ (t : Bool). cond t (key_of_line form.version line) (word_of_line line)) off in
      record {
        utf8 = text_read laws (first_token_of line) (first-token-utf8 rest);
        ascend = subst (λ (text : List ℕ). are_listed (λ b. b) text (breaks_of_line line) ≡ true) is (listed-stand laws form (is_pattern_line line) (pattern_elements form.version line) (counted_text form.version line) (later_tokens_of line) (later-utf8 rest) numbers places good);
      }
