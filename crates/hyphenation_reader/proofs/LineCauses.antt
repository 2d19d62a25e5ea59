-- The first test that a line fails, by its tokens.
use Rattle.std.proofs.Common.{◌≡◌, ◌∙◌, ℕ, suc, Bool, true, false, cond, not, ◌&&◌, ◌||◌, eqb, nat_lt, nat_le, ◌+◌, ◌-◌, ◌<◌, zero, get_or, List, [], ◌∷◌, length, take, drop, map, Option, Some, None, refl, sym, ap, subst, arith, is_some}
use Rattle.std.specs.Prelude.{codes, fold, is_none}
use Rattle.std.specs.Option.{option_map, option_and_then, option_or, unwrap_or}
use Rattle.std.specs.List.{list_all, slice_split}
use Rattle.std.proofs.lemmas.Bool.Decides.{nat_tests}
use Rattle.std.proofs.lemmas.Bool.{not-false, and_parts}
use Rattle.hyphenation_breaks.specs.Break.{Break, Change as Changed, ascend_on, is_boundary}
use Rattle.hyphenation_breaks.specs.Invariant.{has_letter}
use Rattle.hyphenation_grammar.specs.declared.form.Form.{Form}
use Rattle.hyphenation_grammar.specs.Items.{is_pattern_line, is_exception_line, tokens_of, pattern_of_line, exception_of_line, break_of_token, change_at, entries_of_line, breaks_of_line, key_of_line, word_of_line}
use Rattle.hyphenation_grammar.specs.Judging.{is_extended, is_good_later_token, has_value_at, has_bad_number, has_bad_place, has_bad_change}
use Rattle.hyphenation_grammar.specs.Lines.{strip_prefix, is_number, number, number_of, is_same}
use Rattle.hyphenation_grammar.specs.Parsed.{ReadPattern, nothing_read, is_bad, with_spelt, read_pattern, part_at, change_with, sound_change}
use Rattle.hyphenation_reader.specs.Private.Parsed.{ReadLater, no_later, read_later, first_token, pattern_parts, exception_parts}
use Rattle.hyphenation_grammar.specs.Reading.{spelling_as, entry_as}
use Rattle.hyphenation_reader.specs.Private.LineAnswers.{item_cause, pattern_cause, exception_cause, places_cause, suits_key, suits_word, breaks_listed, entries_of}
use Rattle.hyphenation_grammar.specs.Tokens.{elements_of, elements_from, pattern_bytes, text_spelt, escaped_bytes_of, parts_of, key_of, values_from, two_values, is_readable, place_of_token, change_of_token}
use Rattle.hyphenation_breaks.specs.declared.entry.Entry.{Entry}
use Rattle.hyphenation_grammar.specs.declared.Cause.{Cause}
use Rattle.hyphenation_grammar.specs.declared.Cause.TheVariants.{Token, Value as BadValue, Pattern, NoLetters, Number, Place, Change}
use Rattle.hyphenation_grammar.specs.declared.tokens.Escapes.TheVariants.{Plain}
use Rattle.hyphenation_grammar.specs.declared.form.Version.{Version}
use Rattle.hyphenation_grammar.specs.declared.tokens.EscapedByte.{EscapedByte}
use Rattle.hyphenation_grammar.specs.declared.tokens.PatternElement.{PatternElement}
use Rattle.hyphenation_reader.proofs.ReadTokens.{reads, reads_later, later_total, is_sound, has_numbers, said_by, pattern_total, exception_total, both_parts, signs_read, marks_keep, Finds, finds}

-- what stands after a beginning
at_start : (t : Bool) (d text : List ℕ) → Some text ≡ cond t (Some d) None → (is_some (cond t (Some d) None) ≡ true) × (d ≡ text)
at_start true d text e = (refl, cc)
at_start false d text e = absurd cc

pub begun : (start line text : List ℕ) → Some text ≡ strip_prefix start line → (is_some (strip_prefix start line) ≡ true) × (drop (length start) line ≡ text)
begun start line text e = at_start (is_same (take (length start) line) start) (drop (length start) line) text e

-- a line is of one sort
apart : (b : ℕ) → eqb b 112 ≡ true → eqb b 101 ≡ false
apart b e = grind (arith, nat_tests)

pub front : (a b : Bool) (d : List ℕ) → is_some (cond (a && b) (Some d) None) ≡ true → a ≡ true
front true b d e = refl
front false b d e = absurd cc

pub off : (a b : Bool) (d : List ℕ) → a ≡ false → is_some (cond (a && b) (Some d) None) ≡ false
off true b d e = absurd cc
off false b d e = refl

pub one_sort : (line : List ℕ) → is_pattern_line line ≡ true → is_exception_line line ≡ false
one_sort [] e = absurd cc
one_sort (b ∷ line) e = off (eqb b 101) (is_same (take 1 line) (32 ∷ [])) (drop 1 line) (apart b (front (eqb b 112) (is_same (take 1 line) (32 ∷ [])) (drop 1 line) e))

pub other_sort : (line : List ℕ) → is_exception_line line ≡ true → is_pattern_line line ≡ false
other_sort line e = by (is_pattern_line line) (λ h. one_sort line h)
  where
    by : (t : Bool) → (t ≡ true → is_exception_line line ≡ false) → t ≡ false
    by true f = absurd (no (sym e ∙ f refl))
      where
        no : true ≡ false → ⊥
        no h = cc
    by false f = refl

-- the tests from Token on, of a line's sort and its tokens
abbrev pub by_tokens : Form → Bool → Bool → List (List ℕ) → Option Cause
by_tokens form a x tokens =
    cond ((a || x) && not ((nat_lt 0 (length (first_token tokens)) && cond a (is_some (pattern_bytes form.version (first_token tokens))) (is_some (text_spelt (first_token tokens)))) && list_all is_readable (drop 1 tokens))) (Some Token)
    (cond (a && is_none (elements_of form.version (first_token tokens))) (Some BadValue)
    (cond (a && two_values false (unwrap_or (elements_of form.version (first_token tokens)) [])) (Some Pattern)
    (cond (a && not (has_letter (key_of (unwrap_or (elements_of form.version (first_token tokens)) [])))) (Some NoLetters)
    (cond ((a || x) && has_bad_number (drop 1 tokens)) (Some Number)
    (cond ((a || x) && has_bad_place (cond a (key_of (unwrap_or (elements_of form.version (first_token tokens)) [])) (unwrap_or (text_spelt (first_token tokens)) [])) (drop 1 tokens)) (Some Place)
    (cond ((a || x) && has_bad_change form a (unwrap_or (elements_of form.version (first_token tokens)) []) (cond a (key_of (unwrap_or (elements_of form.version (first_token tokens)) [])) (unwrap_or (text_spelt (first_token tokens)) [])) (drop 1 tokens)) (Some Change) None))))))

pub causes : (form : Form) (line : List ℕ) → item_cause form line ≡ by_tokens form (is_pattern_line line) (is_exception_line line) (tokens_of line)
causes form line = refl

unreadable : (r : Bool) (rest : Option Cause) → r ≡ false → cond (not r) (Some Token) rest ≡ Some Token
unreadable true rest e = absurd cc
unreadable false rest e = refl

readable : (r : Bool) (rest : Option Cause) → r ≡ true → cond (not r) (Some Token) rest ≡ rest
readable true rest e = refl
readable false rest e = absurd cc

split : (p c : Bool) → cond p (Some Place) (cond c (Some Change) None) ≡ option_or (cond p (Some Place) None) (cond c (Some Change) None)
split true c = refl
split false c = refl

tail : (n m p q c d : Bool) → n ≡ m → (m ≡ false → p ≡ q) → (m ≡ false → c ≡ d)
    → cond n (Some Number) (cond p (Some Place) (cond c (Some Change) None)) ≡ option_or (cond m (Some Number) (cond q (Some Place) None)) (cond d (Some Change) None)
tail true true p q c d e f g = refl
tail true false p q c d e f g = absurd cc
tail false true p q c d e f g = absurd cc
tail false false p q c d e f g =
    ap (λ (b : Bool). cond b (Some Place) (cond c (Some Change) None)) (f refl) ∙ ap (λ (b : Bool). cond q (Some Place) (cond b (Some Change) None)) (g refl) ∙ split q d

same_places : (text : List ℕ) (least : ℕ) (ts : List (List ℕ)) → ascend_on text least (map place_of_token ts) ≡ ascend_on text least (map (λ b. b.0) (map (λ token. said_by (parts_of token)) ts))
same_places text least [] = refl
same_places text least (t ∷ ts) = ap (λ (b : Bool). (nat_le least (place_of_token t) && is_boundary text (place_of_token t)) && b) (same_places text (place_of_token t + 1) ts)

-- which of the elements it holds of
pub in_front : (p : List ℕ → Bool) (xs : List (List ℕ)) (k i : ℕ) → list_all p (take k xs) ≡ true → i < k → i < length xs → p (get_or xs i []) ≡ true
in_front p [] k i h lt in_xs = absurd (omega arith)
in_front p (x ∷ xs) zero i h lt in_xs = absurd (omega arith)
in_front p (x ∷ xs) (suc k) zero h lt in_xs = (and_parts (p x) (list_all p (take k xs)) h).0
in_front p (x ∷ xs) (suc k) (suc i) h lt in_xs = in_front p xs k i (and_parts (p x) (list_all p (take k xs)) h).1 (omega arith) (omega arith)

at_drop : (p : List ℕ → Bool) (xs : List (List ℕ)) (k : ℕ) → list_all p (drop k xs) ≡ true → k < length xs → p (get_or xs k []) ≡ true
at_drop p [] k h lt = absurd (omega arith)
at_drop p (x ∷ xs) zero h lt = (and_parts (p x) (list_all p xs) h).0
at_drop p (x ∷ xs) (suc k) h lt = at_drop p xs k h (omega arith)

-- the change of a token that can be read and has numbers, where it is whole and broken between characters
abbrev whole : List (List ℕ) → Bool
whole ps = eqb (length ps) 5 && nat_lt 0 (length (part_at ps 4))

abbrev change_by : List (List ℕ) → Changed
change_by ps = record { left = number (part_at ps 1); right = number (part_at ps 2); substitution = unwrap_or (text_spelt (part_at ps 4)) []; breakpoint = number (part_at ps 3) }

abbrev at_boundary : List (List ℕ) → Bool
at_boundary ps = is_boundary (unwrap_or (text_spelt (part_at ps 4)) []) (number (part_at ps 3))

abbrev chained : Option ℕ → Option ℕ → Option ℕ → Option (List ℕ) → Option Changed
chained l r b s = option_and_then (λ left. option_and_then (λ right. option_and_then (λ breakpoint. option_and_then (λ substitution. change_with left right breakpoint substitution) s) b) r) l

all_there : (l r b : Bool) (x y z : ℕ) (s : Option (List ℕ)) → l ≡ true → r ≡ true → b ≡ true → is_some s ≡ true
    → chained (cond l (Some x) None) (cond r (Some y) None) (cond b (Some z) None) s ≡ change_with x y z (unwrap_or s [])
all_there l r b x y z None el er eb es = absurd cc
all_there true true true x y z (Some s) el er eb es = refl
all_there false r b x y z (Some s) el er eb es = absurd cc
all_there true false b x y z (Some s) el er eb es = absurd cc
all_there true true false x y z (Some s) el er eb es = absurd cc

pub five : (ps : List (List ℕ)) → eqb (length ps) 5 ≡ true → length ps ≡ 5
five ps e = by (length ps) e
  where
    by : (n : ℕ) → eqb n 5 ≡ true → n ≡ 5
    by n h = grind (arith, nat_tests)

sound_by : (ps : List (List ℕ)) → list_all is_number (take (length ps - 1) ps) ≡ true → list_all (λ written. is_some (text_spelt written)) (drop 4 ps) ≡ true
    → sound_change ps ≡ cond (whole ps) (cond (at_boundary ps) (Some (change_by ps)) None) None
sound_by ps numbers texts = by (whole ps) refl
  where
    by : (t : Bool) → whole ps ≡ t
        → cond t (chained (number_of (part_at ps 1)) (number_of (part_at ps 2)) (number_of (part_at ps 3)) (text_spelt (part_at ps 4))) None ≡ cond t (cond (at_boundary ps) (Some (change_by ps)) None) None
    by false is = refl
    by true is =
        let n : length ps ≡ 5 = five ps (and_parts (eqb (length ps) 5) (nat_lt 0 (length (part_at ps 4))) is).0 in
        all_there (is_number (part_at ps 1)) (is_number (part_at ps 2)) (is_number (part_at ps 3)) (number (part_at ps 1)) (number (part_at ps 2)) (number (part_at ps 3)) (text_spelt (part_at ps 4))
        (in_front is_number ps (length ps - 1) 1 numbers (omega arith) (omega arith)) (in_front is_number ps (length ps - 1) 2 numbers (omega arith) (omega arith))
        (in_front is_number ps (length ps - 1) 3 numbers (omega arith) (omega arith)) (at_drop (λ written. is_some (text_spelt written)) ps 4 texts (omega arith))

-- a token with a comma, by its change
by_change : (ext w x bnd v : Bool) (change : Changed) (F : Option Changed → Bool) → F (Some change) ≡ ((ext && (x && bnd)) && v)
    → (ext && w && (x && bnd) && v) ≡ (is_some (cond w (cond bnd (Some change) None) None) && F (cond w (cond bnd (Some change) None) None))
by_change true false x bnd v change F e = refl
by_change false false x bnd v change F e = refl
by_change true true true false v change F e = refl
by_change true true false false v change F e = refl
by_change false true x false v change F e = refl
by_change true true x true v change F e = sym e
by_change false true x true v change F e = sym e

-- a token that can be read and has numbers
module _ (form : Form) (text : List ℕ) (token : List ℕ) (readable : is_readable token ≡ true) (numbers : has_numbers (parts_of token) ≡ true) where
  texts : list_all (λ written. is_some (text_spelt written)) (drop 4 (parts_of token)) ≡ true
  texts = (and_parts (nat_lt 0 (length token) && list_all (λ written. is_some (escaped_bytes_of Plain written)) (take 4 (parts_of token))) (list_all (λ written. is_some (text_spelt written)) (drop 4 (parts_of token))) readable).1

  sound_as : (t : Bool) → nat_lt 1 (length (parts_of token)) ≡ t → t ≡ true → sound_change (parts_of token) ≡ cond (whole (parts_of token)) (cond (at_boundary (parts_of token)) (Some (change_of_token token)) None) None
  sound_as t is on = sound_by (parts_of token) (sym (ap (λ (b : Bool). list_all is_number (cond b (take (length (parts_of token) - 1) (parts_of token)) (parts_of token))) (is ∙ on)) ∙ numbers) texts

  abbrev within : Bool
  within = (nat_le (change_of_token token).left (place_of_token token) && is_boundary text (place_of_token token - (change_of_token token).left)) && is_boundary text (place_of_token token + (change_of_token token).right)

  key_token : (ms : List PatternElement) → is_good_later_token form true ms text token ≡ (is_sound (parts_of token) && suits_key form text (values_from 0 ms) (said_by (parts_of token)))
  key_token ms = by (nat_lt 1 (length (parts_of token))) refl
    where
      by : (t : Bool) → nat_lt 1 (length (parts_of token)) ≡ t
          → cond t (is_extended form.kind && whole (parts_of token) && (within && at_boundary (parts_of token)) && has_value_at ms (place_of_token token)) false
          ≡ (cond t (is_some (sound_change (parts_of token))) true && suits_key form text (values_from 0 ms) (place_of_token token, cond t (sound_change (parts_of token)) None))
      by false is = refl
      by true is =
          by_change (is_extended form.kind) (whole (parts_of token)) within (at_boundary (parts_of token)) (has_value_at ms (place_of_token token)) (change_of_token token) (λ o. suits_key form text (values_from 0 ms) (place_of_token token, o)) refl
          ∙ ap (λ (o : Option Changed). is_some o && suits_key form text (values_from 0 ms) (place_of_token token, o)) (sym (sound_as true is refl))

  word_token : (ms : List PatternElement) → is_good_later_token form false ms text token ≡ (is_sound (parts_of token) && suits_word form text (said_by (parts_of token)))
  word_token ms = by (nat_lt 1 (length (parts_of token))) refl
    where
      and_true : (b : Bool) → b ≡ (b && true)
      and_true true = refl
      and_true false = refl

      by : (t : Bool) → nat_lt 1 (length (parts_of token)) ≡ t
          → cond t (is_extended form.kind && whole (parts_of token) && (within && at_boundary (parts_of token)) && true) true
          ≡ (cond t (is_some (sound_change (parts_of token))) true && suits_word form text (place_of_token token, cond t (sound_change (parts_of token)) None))
      by false is = refl
      by true is =
          by_change (is_extended form.kind) (whole (parts_of token)) within (at_boundary (parts_of token)) true (change_of_token token) (λ o. suits_word form text (place_of_token token, o)) (and_true (is_extended form.kind && (within && at_boundary (parts_of token))))
          ∙ ap (λ (o : Option Changed). is_some o && suits_word form text (place_of_token token, o)) (sym (sound_as true is refl))

  listed_token : is_sound (parts_of token) ≡ true → record { place = (said_by (parts_of token)).0; change = (said_by (parts_of token)).1 } ≡ break_of_token token
  listed_token sound = by (nat_lt 1 (length (parts_of token))) refl sound
    where
      there : (w bnd : Bool) (o : Option Changed) → o ≡ cond w (cond bnd (Some (change_of_token token)) None) None → is_some o ≡ true → o ≡ Some (change_of_token token)
      there true true o e h = e
      there true false o e h = absurd (no (sym (ap is_some e) ∙ h))
        where
          no : false ≡ true → ⊥
          no x = cc
      there false bnd o e h = absurd (no (sym (ap is_some e) ∙ h))
        where
          no : false ≡ true → ⊥
          no x = cc

      by : (t : Bool) → nat_lt 1 (length (parts_of token)) ≡ t → cond t (is_some (sound_change (parts_of token))) true ≡ true
          → ◌≡◌ {A = Break} (record { place = place_of_token token; change = cond t (sound_change (parts_of token)) None }) (record { place = place_of_token token; change = cond t (Some (change_of_token token)) None })
      by false is h = refl
      by true is h = ap (λ (o : Option Changed). record { place = place_of_token token; change = o }) (there (whole (parts_of token)) (at_boundary (parts_of token)) (sound_change (parts_of token)) (sound_as true is refl) h)

abbrev all_numbers : List (List ℕ) → Bool
all_numbers ts = list_all (λ token. has_numbers (parts_of token)) ts

abbrev all_sound : List (List ℕ) → Bool
all_sound ts = list_all (λ token. is_sound (parts_of token)) ts

abbrev all_said : List (List ℕ) → List (ℕ × Option Changed)
all_said ts = map (λ token. said_by (parts_of token)) ts

swapped : (s f ss fs : Bool) → ((s && f) && (ss && fs)) ≡ ((s && ss) && (f && fs))
swapped true true ss fs = refl
swapped true false true fs = refl
swapped true false false fs = refl
swapped false f ss fs = refl

paired : (g s f gs ss fs : Bool) → g ≡ (s && f) → gs ≡ (ss && fs) → (g && gs) ≡ ((s && ss) && (f && fs))
paired g s f gs ss fs e es = (λ i. e i && es i) ∙ swapped s f ss fs

key_tokens : (form : Form) (text : List ℕ) (ms : List PatternElement) (ts : List (List ℕ)) → list_all is_readable ts ≡ true → all_numbers ts ≡ true
    → list_all (is_good_later_token form true ms text) ts ≡ (all_sound ts && list_all (suits_key form text (values_from 0 ms)) (all_said ts))
key_tokens form text ms [] r n = refl
key_tokens form text ms (t ∷ ts) r n =
    paired (is_good_later_token form true ms text t) (is_sound (parts_of t)) (suits_key form text (values_from 0 ms) (said_by (parts_of t))) (list_all (is_good_later_token form true ms text) ts) (all_sound ts) (list_all (suits_key form text (values_from 0 ms)) (all_said ts))
    (key_token form text t (and_parts (is_readable t) (list_all is_readable ts) r).0 (and_parts (has_numbers (parts_of t)) (all_numbers ts) n).0 ms)
    (key_tokens form text ms ts (and_parts (is_readable t) (list_all is_readable ts) r).1 (and_parts (has_numbers (parts_of t)) (all_numbers ts) n).1)

word_tokens : (form : Form) (text : List ℕ) (ms : List PatternElement) (ts : List (List ℕ)) → list_all is_readable ts ≡ true → all_numbers ts ≡ true
    → list_all (is_good_later_token form false ms text) ts ≡ (all_sound ts && list_all (suits_word form text) (all_said ts))
word_tokens form text ms [] r n = refl
word_tokens form text ms (t ∷ ts) r n =
    paired (is_good_later_token form false ms text t) (is_sound (parts_of t)) (suits_word form text (said_by (parts_of t))) (list_all (is_good_later_token form false ms text) ts) (all_sound ts) (list_all (suits_word form text) (all_said ts))
    (word_token form text t (and_parts (is_readable t) (list_all is_readable ts) r).0 (and_parts (has_numbers (parts_of t)) (all_numbers ts) n).0 ms)
    (word_tokens form text ms ts (and_parts (is_readable t) (list_all is_readable ts) r).1 (and_parts (has_numbers (parts_of t)) (all_numbers ts) n).1)

listed_tokens : (form : Form) (text : List ℕ) (ts : List (List ℕ)) → list_all is_readable ts ≡ true → all_numbers ts ≡ true → all_sound ts ≡ true → breaks_listed (all_said ts) ≡ map break_of_token ts
listed_tokens form text [] r n s = refl
listed_tokens form text (t ∷ ts) r n s =
    let here = listed_token form text t (and_parts (is_readable t) (list_all is_readable ts) r).0 (and_parts (has_numbers (parts_of t)) (all_numbers ts) n).0 (and_parts (is_sound (parts_of t)) (all_sound ts) s).0 in
    let rest = listed_tokens form text ts (and_parts (is_readable t) (list_all is_readable ts) r).1 (and_parts (has_numbers (parts_of t)) (all_numbers ts) n).1 (and_parts (is_sound (parts_of t)) (all_sound ts) s).1 in
    λ i. here i ∷ rest i

-- the places of later tokens, and what else they say
module _ (form : Form) (l : ReadLater) (later : List (List ℕ)) (read : read_later no_later later ≡ Some l) where
  numbers_by : has_bad_number later ≡ not l.are_numbers
  numbers_by = ap not (sym (reads_later no_later l later read).numbers)

  said : not l.are_numbers ≡ false → l.listed ≡ all_said later
  said off = (reads_later no_later l later read).listed (not-false l.are_numbers off)

  sound : not l.are_numbers ≡ false → l.are_sound ≡ all_sound later
  sound off = (reads_later no_later l later read).sound (not-false l.are_numbers off)

  are_readable : list_all is_readable later ≡ true
  are_readable = sym (later_total no_later later) ∙ ap is_some read

  are_numbers : not l.are_numbers ≡ false → all_numbers later ≡ true
  are_numbers off = sym (reads_later no_later l later read).numbers ∙ not-false l.are_numbers off

  place_test : (text : List ℕ) → not l.are_numbers ≡ false → has_bad_place text later ≡ not (ascend_on text 0 (map (λ b. b.0) l.listed))
  place_test text off = ap not (same_places text 0 later ∙ ap (λ (bs : List (ℕ × Option Changed)). ascend_on text 0 (map (λ b. b.0) bs)) (sym (said off)))

  key_test : (ms : List PatternElement) (text : List ℕ) → not l.are_numbers ≡ false → has_bad_change form true ms text later ≡ not (l.are_sound && list_all (suits_key form text (values_from 0 ms)) l.listed)
  key_test ms text off =
      ap not (key_tokens form text ms later are_readable (are_numbers off))
      ∙ ap (λ (b : Bool). not (b && list_all (suits_key form text (values_from 0 ms)) (all_said later))) (sym (sound off))
      ∙ ap (λ (bs : List (ℕ × Option Changed)). not (l.are_sound && list_all (suits_key form text (values_from 0 ms)) bs)) (sym (said off))

  word_test : (ms : List PatternElement) (text : List ℕ) → not l.are_numbers ≡ false → has_bad_change form false ms text later ≡ not (l.are_sound && list_all (suits_word form text) l.listed)
  word_test ms text off =
      ap not (word_tokens form text ms later are_readable (are_numbers off))
      ∙ ap (λ (b : Bool). not (b && list_all (suits_word form text) (all_said later))) (sym (sound off))
      ∙ ap (λ (bs : List (ℕ × Option Changed)). not (l.are_sound && list_all (suits_word form text) bs)) (sym (said off))

  pub breaks_by : not l.are_numbers ≡ false → l.are_sound ≡ true → map break_of_token later ≡ breaks_listed l.listed
  breaks_by off on = sym (listed_tokens form [] later are_readable (are_numbers off) (sym (sound off) ∙ on)) ∙ ap breaks_listed (sym (said off))

  pattern_tail : (ms : List PatternElement) (text : List ℕ)
      → cond (has_bad_number later) (Some Number) (cond (has_bad_place text later) (Some Place) (cond (has_bad_change form true ms text later) (Some Change) None))
      ≡ option_or (places_cause text l) (cond (not (l.are_sound && list_all (suits_key form text (values_from 0 ms)) l.listed)) (Some Change) None)
  pattern_tail ms text =
      tail (has_bad_number later) (not l.are_numbers) (has_bad_place text later) (not (ascend_on text 0 (map (λ b. b.0) l.listed))) (has_bad_change form true ms text later) (not (l.are_sound && list_all (suits_key form text (values_from 0 ms)) l.listed))
      numbers_by (place_test text) (key_test ms text)

  exception_tail : (ms : List PatternElement) (text : List ℕ)
      → cond (has_bad_number later) (Some Number) (cond (has_bad_place text later) (Some Place) (cond (has_bad_change form false ms text later) (Some Change) None)) ≡ exception_cause form text l
  exception_tail ms text =
      tail (has_bad_number later) (not l.are_numbers) (has_bad_place text later) (not (ascend_on text 0 (map (λ b. b.0) l.listed))) (has_bad_change form false ms text later) (not (l.are_sound && list_all (suits_word form text) l.listed))
      numbers_by (place_test text) (word_test ms text)

-- a pattern's tokens, by the marks of the first
abbrev pattern_rest : Form → Option (List PatternElement) → List (List ℕ) → Option Cause
pattern_rest form found later =
    let ms = unwrap_or found [] in
    cond (is_none found) (Some BadValue)
    (cond (two_values false ms) (Some Pattern)
    (cond (not (has_letter (key_of ms))) (Some NoLetters)
    (cond (has_bad_number later) (Some Number) (cond (has_bad_place (key_of ms) later) (Some Place) (cond (has_bad_change form true ms (key_of ms) later) (Some Change) None)))))

abbrev pattern_test : Version → List (List ℕ) → Bool
pattern_test version tokens = (nat_lt 0 (length (first_token tokens)) && is_some (pattern_bytes version (first_token tokens))) && list_all is_readable (drop 1 tokens)

pattern_none : (form : Form) (x : Bool) (tokens : List (List ℕ)) → pattern_parts form.version tokens ≡ None → by_tokens form true x tokens ≡ Some Token
pattern_none form x tokens e =
    unreadable (pattern_test form.version tokens) (pattern_rest form (elements_of form.version (first_token tokens)) (drop 1 tokens)) (sym (pattern_total form.version tokens) ∙ ap is_some e)

-- its first test but one, by its key and its values
abbrev caused : Form → ReadLater → Bool → Bool → List ℕ → List (ℕ × ℕ) → Option Cause
caused form l bad two key values =
    cond bad (Some BadValue) (cond two (Some Pattern) (cond (not (has_letter key)) (Some NoLetters) (option_or (places_cause key l) (cond (not (l.are_sound && list_all (suits_key form key values) l.listed)) (Some Change) None))))

-- what is read of the first token, by its marks
pub record IsRead (r : ReadPattern) (ms : List PatternElement) : Type 0 where
  pub good : is_bad r ≡ false
  pub key : key_of ms ≡ r.key
  pub values : values_from 0 ms ≡ r.values
  pub twice : two_values false ms ≡ r.has_two_values

is_read : (r : ReadPattern) (ms : List PatternElement) → Finds nothing_read r (Some ms) → IsRead r ms
is_read r ms found =
    let rs = reads nothing_read ms in
    record {
      good = ap is_bad found ∙ ap (λ (b : Bool). b || false) (marks_keep nothing_read ms);
      key = sym rs.key ∙ sym (ap (λ (q : ReadPattern). q.key) found);
      values = sym rs.values ∙ sym (ap (λ (q : ReadPattern). q.values) found);
      twice = sym rs.twice ∙ sym (ap (λ (q : ReadPattern). q.has_two_values) found);
    }

pub found_marks : (version : Version) (token : List ℕ) (r : ReadPattern) → read_pattern version token ≡ Some r → Finds nothing_read r (elements_of version token)
found_marks version token r e =
    let s = signs_read (fold (with_spelt version) nothing_read) (pattern_bytes version token) r e in
    subst (λ (o : Option (List EscapedByte)). Finds nothing_read r (option_and_then (elements_from version None) o)) (sym s.1)
    (subst (λ (q : ReadPattern). Finds nothing_read q (elements_from version None s.0)) s.2 (finds version nothing_read s.0))

caused_by : (form : Form) (later : List (List ℕ)) (r : ReadPattern) (l : ReadLater) → read_later no_later later ≡ Some l → (found : Option (List PatternElement)) → Finds nothing_read r found → pattern_rest form found later ≡ pattern_cause form r l
caused_by form later r l read None bad = ap (λ (b : Bool). caused form l b r.has_two_values r.key r.values) (sym bad)
caused_by form later r l read (Some ms) found =
    let is = is_read r ms found in
    ap (λ (rest : Option Cause). cond (two_values false ms) (Some Pattern) (cond (not (has_letter (key_of ms))) (Some NoLetters) rest)) (pattern_tail form l later read ms (key_of ms))
    ∙ (λ i. caused form l (sym is.good i) (is.twice i) (is.key i) (is.values i))

pattern_some : (form : Form) (x : Bool) (tokens : List (List ℕ)) (r : ReadPattern) (l : ReadLater) → pattern_parts form.version tokens ≡ Some (r, l) → by_tokens form true x tokens ≡ pattern_cause form r l
pattern_some form x tokens r l e =
    let parts = both_parts (eqb (length (first_token tokens)) 0) (read_pattern form.version (first_token tokens)) (read_later no_later (drop 1 tokens)) r l e in
    let marks = elements_of form.version (first_token tokens) in
    readable (pattern_test form.version tokens) (pattern_rest form marks (drop 1 tokens)) (sym (pattern_total form.version tokens) ∙ ap is_some e)
    ∙ caused_by form (drop 1 tokens) r l parts.1 marks (found_marks form.version (first_token tokens) r parts.0)

-- what it spells
abbrev entry_with : {C : Type 0} → (Option Changed → C) → List Break → ℕ × ℕ → Entry C
entry_with payload_of breaks v = record { place = v.0; value = v.1; change = payload_of (change_at v.0 breaks) }

abbrev own_entry : List Break → ℕ × ℕ → Entry (Option Changed)
own_entry breaks v = record { place = v.0; value = v.1; change = change_at v.0 breaks }

spelt_entries : {C : Type 0} (payload_of : Option Changed → C) (breaks : List Break) (vs : List (ℕ × ℕ)) → map (entry_as payload_of) (map (own_entry breaks) vs) ≡ map (entry_with payload_of breaks) vs
spelt_entries payload_of breaks [] = refl
spelt_entries {C} payload_of breaks (v ∷ vs) = ap (λ (es : List (Entry C)). entry_with payload_of breaks v ∷ es) (spelt_entries payload_of breaks vs)

abbrev pattern_by : {C : Type 0} → Version → (Option Changed → C) → Bool → List (List ℕ) → Option (List ℕ × List (Entry C))
pattern_by {C} version payload_of a tokens =
    option_map {U = List ℕ × List (Entry C)} (λ (x : List ℕ × List (Entry (Option Changed))). (x.0, map (entry_as payload_of) x.1))
    (cond a (Some (key_of (unwrap_or (elements_of version (first_token tokens)) []), map (own_entry (map break_of_token (drop 1 tokens))) (values_from 0 (unwrap_or (elements_of version (first_token tokens)) [])))) None)

abbrev pair : {X Y : Type 0} → X → Y → Option (X × Y)
pair x y = Some (x, y)

abbrev as_spelt : {C : Type 0} → (Option Changed → C) → List Break → List PatternElement → Option (List ℕ × List (Entry C))
as_spelt payload_of breaks ms = pair (key_of ms) (map (entry_as payload_of) (map (own_entry breaks) (values_from 0 ms)))

-- a line that fails none of the tests has numbers, and its changes are sound
passed : (n p s f : Bool) → option_or (cond (not n) (Some Number) (cond p (Some Place) None)) (cond (not (s && f)) (Some Change) None) ≡ None → (not n ≡ false) × (s ≡ true)
passed true true s f e = absurd cc
passed true false true f e = (refl, refl)
passed true false false f e = absurd cc
passed false p s f e = absurd cc

pattern_passed : (form : Form) (r : ReadPattern) (l : ReadLater) → pattern_cause form r l ≡ None → (not l.are_numbers ≡ false) × (l.are_sound ≡ true) × (is_bad r ≡ false)
pattern_passed form r l e = by (is_bad r) r.has_two_values (not (has_letter r.key)) refl e
  where
    by : (bad two dots : Bool) → is_bad r ≡ bad
        → cond bad (Some BadValue) (cond two (Some Pattern) (cond dots (Some NoLetters) (option_or (places_cause r.key l) (cond (not (l.are_sound && list_all (suits_key form r.key r.values) l.listed)) (Some Change) None)))) ≡ None
        → (not l.are_numbers ≡ false) × (l.are_sound ≡ true) × (is_bad r ≡ false)
    by true two dots is h = absurd cc
    by false true dots is h = absurd cc
    by false false true is h = absurd cc
    by false false false is h = let p = passed l.are_numbers (not (ascend_on r.key 0 (map (λ b. b.0) l.listed))) l.are_sound (list_all (suits_key form r.key r.values) l.listed) h in (p.0, p.1, is)

-- the marks are there where no value is bad
pub read_marks : (r : ReadPattern) (found : Option (List PatternElement)) → Finds nothing_read r found → is_bad r ≡ false → (ms : List PatternElement) × (found ≡ Some ms) × IsRead r ms
read_marks r None bad good = absurd cc
read_marks r (Some ms) found good = (ms, refl, is_read r ms found)

pattern_spelt : {C : Type 0} (payload_of : Option Changed → C) (form : Form) (tokens : List (List ℕ)) (r : ReadPattern) (l : ReadLater) → pattern_parts form.version tokens ≡ Some (r, l) → pattern_cause form r l ≡ None
    → pattern_by form.version payload_of true tokens ≡ Some (r.key, entries_of payload_of r.values l.listed)
pattern_spelt {C} payload_of form tokens r l e none =
    let parts = both_parts (eqb (length (first_token tokens)) 0) (read_pattern form.version (first_token tokens)) (read_later no_later (drop 1 tokens)) r l e in
    let ok = pattern_passed form r l none in
    let m = read_marks r (elements_of form.version (first_token tokens)) (found_marks form.version (first_token tokens) r parts.0) ok.2 in
    let breaks : map break_of_token (drop 1 tokens) ≡ breaks_listed l.listed = breaks_by form l (drop 1 tokens) parts.1 ok.0 ok.1 in
    ap (λ (o : Option (List PatternElement)). as_spelt payload_of (map break_of_token (drop 1 tokens)) (unwrap_or o [])) m.1
    ∙ ap (λ (xs : List (Entry C)). pair (key_of m.0) xs) (spelt_entries payload_of (map break_of_token (drop 1 tokens)) (values_from 0 m.0))
    ∙ (λ i. pair (m.2.key i) (map (entry_with payload_of (breaks i)) (m.2.values i)))

-- an exception's tokens
abbrev exception_test : List (List ℕ) → Bool
exception_test tokens = (nat_lt 0 (length (first_token tokens)) && is_some (text_spelt (first_token tokens))) && list_all is_readable (drop 1 tokens)

abbrev exception_rest : Form → List PatternElement → List ℕ → List (List ℕ) → Option Cause
exception_rest form ms text later = cond (has_bad_number later) (Some Number) (cond (has_bad_place text later) (Some Place) (cond (has_bad_change form false ms text later) (Some Change) None))

exception_none : (form : Form) (tokens : List (List ℕ)) → exception_parts tokens ≡ None → by_tokens form false true tokens ≡ Some Token
exception_none form tokens e =
    unreadable (exception_test tokens) (exception_rest form (unwrap_or (elements_of form.version (first_token tokens)) []) (unwrap_or (text_spelt (first_token tokens)) []) (drop 1 tokens)) (sym (exception_total tokens) ∙ ap is_some e)

exception_some : (form : Form) (tokens : List (List ℕ)) (word : List ℕ) (l : ReadLater) → exception_parts tokens ≡ Some (word, l) → by_tokens form false true tokens ≡ exception_cause form word l
exception_some form tokens word l e =
    let parts = both_parts (eqb (length (first_token tokens)) 0) (text_spelt (first_token tokens)) (read_later no_later (drop 1 tokens)) word l e in
    let ms : List PatternElement = unwrap_or (elements_of form.version (first_token tokens)) [] in
    readable (exception_test tokens) (exception_rest form ms (unwrap_or (text_spelt (first_token tokens)) []) (drop 1 tokens)) (sym (exception_total tokens) ∙ ap is_some e)
    ∙ ap (λ (o : Option (List ℕ)). exception_rest form ms (unwrap_or o []) (drop 1 tokens)) parts.0
    ∙ exception_tail form l (drop 1 tokens) parts.1 ms word

abbrev exception_by : {B : Type 0} → (Break → B) → Bool → List (List ℕ) → Option (List ℕ × List B)
exception_by {B} listing_of x tokens = option_map {U = List ℕ × List B} (λ (s : List ℕ × List Break). (s.0, map listing_of s.1)) (cond x (Some (unwrap_or (text_spelt (first_token tokens)) [], map break_of_token (drop 1 tokens))) None)

exception_spelt : {B : Type 0} (listing_of : Break → B) (form : Form) (tokens : List (List ℕ)) (word : List ℕ) (l : ReadLater) → exception_parts tokens ≡ Some (word, l) → exception_cause form word l ≡ None
    → exception_by listing_of true tokens ≡ Some (word, map listing_of (breaks_listed l.listed))
exception_spelt listing_of form tokens word l e none =
    let parts = both_parts (eqb (length (first_token tokens)) 0) (text_spelt (first_token tokens)) (read_later no_later (drop 1 tokens)) word l e in
    let ok = passed l.are_numbers (not (ascend_on word 0 (map (λ b. b.0) l.listed))) l.are_sound (list_all (suits_word form word) l.listed) none in
    ap (λ (o : Option (List ℕ)). pair (unwrap_or o []) (map listing_of (map break_of_token (drop 1 tokens)))) parts.0
    ∙ ap (λ (bs : List Break). pair word (map listing_of bs)) (breaks_by form l (drop 1 tokens) parts.1 ok.0 ok.1)

-- the same of lines
abbrev pub spaced : List ℕ → List (List ℕ)
spaced text = slice_split (λ b. eqb b 32) text

module _ (form : Form) (line text : List ℕ) (start : Some text ≡ strip_prefix (codes "p ") line) where
  sort : is_pattern_line line ≡ true
  sort = (begun (codes "p ") line text start).0

  tokens : tokens_of line ≡ spaced text
  tokens = ap spaced (begun (codes "p ") line text start).1

  as_pattern : item_cause form line ≡ by_tokens form true (is_exception_line line) (spaced text)
  as_pattern = ap (λ (a : Bool). by_tokens form a (is_exception_line line) (tokens_of line)) sort ∙ ap (λ (ts : List (List ℕ)). by_tokens form true (is_exception_line line) ts) tokens

  pub pattern_unread : pattern_parts form.version (spaced text) ≡ None → item_cause form line ≡ Some Token
  pattern_unread e = as_pattern ∙ pattern_none form (is_exception_line line) (spaced text) e

  pub pattern_caused : (r : ReadPattern) (l : ReadLater) → pattern_parts form.version (spaced text) ≡ Some (r, l) → item_cause form line ≡ pattern_cause form r l
  pattern_caused r l e = as_pattern ∙ pattern_some form (is_exception_line line) (spaced text) r l e

  pub pattern_says : {C : Type 0} (payload_of : Option Changed → C) (r : ReadPattern) (l : ReadLater) → pattern_parts form.version (spaced text) ≡ Some (r, l) → pattern_cause form r l ≡ None
      → (spelling_as (entry_as payload_of) (pattern_of_line form.version) line ≡ Some (r.key, entries_of payload_of r.values l.listed)) × (exception_of_line line ≡ None)
  pattern_says payload_of r l e none =
      (ap (λ (a : Bool). pattern_by form.version payload_of a (tokens_of line)) sort ∙ ap (pattern_by form.version payload_of true) tokens ∙ pattern_spelt payload_of form (spaced text) r l e none, ap (λ (x : Bool). cond x (Some (word_of_line line, breaks_of_line line)) None) (one_sort line sort))

module _ (form : Form) (line text : List ℕ) (start : Some text ≡ strip_prefix (codes "e ") line) where
  sort_e : is_exception_line line ≡ true
  sort_e = (begun (codes "e ") line text start).0

  tokens_e : tokens_of line ≡ spaced text
  tokens_e = ap spaced (begun (codes "e ") line text start).1

  as_exception : item_cause form line ≡ by_tokens form false true (spaced text)
  as_exception =
      ap (λ (a : Bool). by_tokens form a (is_exception_line line) (tokens_of line)) (other_sort line sort_e) ∙ ap (λ (x : Bool). by_tokens form false x (tokens_of line)) sort_e
      ∙ ap (λ (ts : List (List ℕ)). by_tokens form false true ts) tokens_e

  pub exception_unread : exception_parts (spaced text) ≡ None → item_cause form line ≡ Some Token
  exception_unread e = as_exception ∙ exception_none form (spaced text) e

  pub exception_caused : (w : List ℕ) (l : ReadLater) → exception_parts (spaced text) ≡ Some (w, l) → item_cause form line ≡ exception_cause form w l
  exception_caused w l e = as_exception ∙ exception_some form (spaced text) w l e

  pub exception_says : {B : Type 0} (listing_of : Break → B) (w : List ℕ) (l : ReadLater) → exception_parts (spaced text) ≡ Some (w, l) → exception_cause form w l ≡ None
      → (pattern_of_line form.version line ≡ None) × (spelling_as listing_of exception_of_line line ≡ Some (w, map listing_of (breaks_listed l.listed)))
  exception_says listing_of w l e none = (
    ap (λ (a : Bool). cond a (Some (key_of_line form.version line, entries_of_line form.version line)) None) (other_sort line sort_e),
    ap (λ (x : Bool). exception_by listing_of x (tokens_of line)) sort_e ∙ ap (exception_by listing_of true) tokens_e ∙ exception_spelt listing_of form (spaced text) w l e none,
  )

-- a call that found nothing
pub none_found : {X Y : Type 0} (f : X → Y) (o : Option X) (all : Option Y) → ((x : X) → o ≡ Some x → ⊥) → option_map f o ≡ all → all ≡ None
none_found f None all never e = sym e
none_found f (Some x) all never e = absurd (never x refl)

pub not_found : {X : Type 0} (o : Option X) → ((x : X) → o ≡ Some x → ⊥) → o ≡ None
not_found None never = refl
not_found (Some x) never = absurd (never x refl)
