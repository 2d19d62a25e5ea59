-- Words without changes: their minima, and their answers.
use Rattle.std.proofs.Common.{◌≡◌, ◌∙◌, ℕ, Bool, true, false, cond, List, [], ◌∷◌, ◌++◌, length, map, take, get_or, Option, None, Some, refl, sym, ap, arith, inl, inr}
use Rattle.std.specs.Prelude.{ℤ, ◌&&◌, replicate, slice_index, slice_index_or, option_map}
use Rattle.std.proofs.lemmas.Bool.{cases_lt, and_right}
use Rattle.std.proofs.lemmas.List.{get_or-replicate, get_or_past, length-map, length-replicate}
use Rattle.std.proofs.lemmas.List.FromFn.{fill_by_all, length-map-range_with_len}
use Rattle.libhyphen_rule.proofs.ForbiddenPlaces.{digits_but-length}
use Rattle.libhyphen_files.specs.Bytes.{continues}
use Rattle.libhyphen_files.specs.Files.{Rules}
use Rattle.libhyphen_rule.specs.Calls.{Answer, answer_of, answer_of_found, begins_within, changes_in_characters, digits_by_no_hyphen, found_by_call, plain_answer, text_of_call}
use Rattle.libhyphen_rule.specs.Found.{answer_view, placed, placed_all, placed_or_none}
use Rattle.libhyphen_rule.specs.Minima.{changes_but, digits_but, left_goes, right_goes, goes_before, goes_after}
use Rattle.libhyphen_rule.specs.OneLevel.{ChangeAt}
use Rattle.libhyphen_rule.specs.Parts.{Found, without_left, without_right}
use Rattle.libhyphen_rule.specs.Private.PlainWords.{FindsPlain}
use Rattle.libhyphen_rule.specs.Words.{change_in_characters, changes_of_characters, digits_of_characters, last_bytes, written_word}
use Rattle.libhyphen_rule.specs.declared.calls.CallAnswer.{CallAnswer}
use Rattle.libhyphen_rule.specs.declared.calls.CallMinima.{CallMinima}
use Rattle.libhyphen_rule.specs.declared.one_level.PlacedChange.{PlacedChange}

-- The changes of a number of places that have none.
abbrev no_changes : ℕ → List (Option ChangeAt)
no_changes places = replicate places None

none_at : (places byte : ℕ) → slice_index_or (no_changes places) byte None ≡ None
none_at places byte = elim (cases_lt byte places) [
  | inl next_level ↦ get_or-replicate places byte None None next_level
  | inr past ↦ let long : length (no_changes places) ≡ places = length-replicate places None in
      get_or_past (no_changes places) byte None (omega (arith, long))
]

-- ---- Minima.

-- No change is found at a place, whether the list is empty or has no changes.
left_same : (utf8 : Bool) (least : ℤ) (text : List ℕ) (places : ℕ)
    → left_goes utf8 least text [] ≡ left_goes utf8 least text (no_changes places)
left_same utf8 least text places = λ i byte. goes_before utf8 least text byte (sym (none_at places byte) i)

right_same : (utf8 : Bool) (least : ℤ) (word text : List ℕ) (places : ℕ)
    → right_goes utf8 least word text [] ≡ right_goes utf8 least word text (no_changes places)
right_same utf8 least word text places = λ i byte. goes_after utf8 least word text byte (sym (none_at places byte) i)

either_none : (goes : Bool) (change : Option ChangeAt) → change ≡ None
    → None ≡ cond {A = Option ChangeAt} goes None change
either_none true change none = refl
either_none false change none = sym none

-- Where no place has a change, none has one without some places.
none_but : (goes : ℕ → Bool) (places : ℕ) → changes_but goes (no_changes places) ≡ no_changes places
none_but goes places =
    sym (fill_by_all (λ byte. cond (goes byte) None (slice_index_or (no_changes places) byte None)) (no_changes places) (length (no_changes places)) None
    refl (λ byte next_level. none_at places byte ∙ either_none (goes byte) (slice_index_or (no_changes places) byte None) (none_at places byte)))

plain_but : (goes : List (Option ChangeAt) → ℕ → Bool) (found : Found) (digits fewer : List ℕ)
    → FindsPlain found digits
    → ((places : ℕ) → goes [] ≡ goes (no_changes places)) → fewer ≡ digits_but (goes []) digits
    → FindsPlain (record found { digits = digits_but (goes found.changes) found.digits; changes = changes_but (goes found.changes) found.changes }) fewer
plain_but goes found digits fewer is same less =
    let at : goes found.changes ≡ goes [] = ap goes is.no_changes ∙ sym (same (length digits)) in
    let long : length digits ≡ length fewer = sym (ap (λ xs. length xs) less ∙ digits_but-length (goes []) digits) in record {
      digits_are = ap (λ (g : ℕ → Bool). digits_but g found.digits) at ∙ ap (digits_but (goes [])) is.digits_are
          ∙ sym less;
      no_changes = ap (changes_but (goes found.changes)) is.no_changes ∙ none_but (goes found.changes) (length digits)
          ∙ ap no_changes long;
      not_made = is.not_made;
    }

-- Minima take no change to a word without changes.
pub plain_left : (utf8 : Bool) (least : ℤ) (text : List ℕ) (found : Found) (digits fewer : List ℕ)
    → FindsPlain found digits
    → fewer ≡ digits_but (left_goes utf8 least text []) digits → FindsPlain (without_left utf8 least text found) fewer
plain_left utf8 least text found digits fewer is less =
    plain_but (left_goes utf8 least text) found digits fewer is (left_same utf8 least text) less

pub plain_right : (utf8 : Bool) (least : ℤ) (word text : List ℕ) (found : Found) (digits fewer : List ℕ)
    → FindsPlain found digits
    → fewer ≡ digits_but (right_goes utf8 least word text []) digits
    → FindsPlain (without_right utf8 least word text found) fewer
plain_right utf8 least word text found digits fewer is less =
    plain_but (right_goes utf8 least word text) found digits fewer is (right_same utf8 least word text) less

-- ---- Answers.

-- As many changes as places are returned as they are.
same_places : (places : ℕ) (changes : List (Option PlacedChange)) → length changes ≡ places
    → placed_or_none places changes ≡ placed_all changes
same_places places [] long = ap no_changes (sym long)
same_places places (change ∷ changes) long = refl

abbrev answer_with : List ℕ → List (Option ChangeAt) → Bool → Answer
answer_with digits changes made = record { digits = digits; changes = changes; made = made }

answer_same : (d d' : List ℕ) (e e' : List (Option ChangeAt)) (m m' : Bool) → d ≡ d' → e ≡ e' → m ≡ m'
    → answer_with d e m ≡ answer_with d' e' m'
answer_same d d' e e' m m' hd he hm = λ i. answer_with (hd i) (he i) (hm i)

none_of_numbers : (change : ℕ → Option ChangeAt) (digit : ℕ → ℕ) (bytes : List ℕ) → ((byte : ℕ) → change byte ≡ None)
    → map change bytes ≡ no_changes (length (map digit bytes))
none_of_numbers change digit [] none = refl
none_of_numbers change digit (byte ∷ bytes) none =
    (λ i. none byte i ∷ map change bytes)
    ∙ ap (λ (xs : List (Option ChangeAt)). None ∷ xs) (none_of_numbers change digit bytes none)

-- Where no byte has a change, no character has one.
none_of_characters : (word text digits : List ℕ) (places : ℕ)
    → changes_of_characters word text (no_changes places) ≡ no_changes (length (digits_of_characters word digits))
none_of_characters word text digits places =
    none_of_numbers (λ byte. option_map (change_in_characters text byte) (slice_index_or (no_changes places) byte None))
    (λ byte. get_or digits byte 0) (last_bytes word)
    (λ byte. ap (option_map (change_in_characters text byte)) (none_at places byte))

-- An answer is returned with the changes of its list, or with none.
view_with : (answer : CallAnswer) (digits : List ℕ) (changes : List (Option ChangeAt)) (made : Bool)
    → answer.digits.items ≡ digits
    → placed_all answer.changes.items ≡ changes → answer.made ≡ made → length changes ≡ length digits
    → answer_view answer ≡ answer_with digits changes made
view_with answer digits changes made d e m long =
    let as_many : length answer.changes.items ≡ length answer.digits.items
    = sym (length-map answer.changes.items (option_map placed)) ∙ ap (λ (xs : List (Option ChangeAt)). length xs) e
    ∙ long
    ∙ ap (λ (xs : List ℕ). length xs) (sym d) in
    answer_same _ _ _ _ _ _ d (same_places (length answer.digits.items) answer.changes.items as_many ∙ e) m

-- A text in bytes does not begin within a character. One in UTF-8 does not if its first byte begins one.
pub whole_of_bytes : (rules : Rules) (text : List ℕ) → rules.utf8 ≡ false → begins_within rules text ≡ false
whole_of_bytes rules text bytes = ap (λ b. b && continues (slice_index text 0)) bytes

pub whole_of_utf8 : (rules : Rules) (text : List ℕ) → continues (slice_index text 0) ≡ false
    → begins_within rules text ≡ false
whole_of_utf8 rules text begins = ap (λ b. rules.utf8 && b) begins ∙ and_right rules.utf8 false refl

-- A word that begins with a whole character has an answer.
some_answer : (rules : Rules) (given : Option CallMinima) (text : List ℕ) (size : ℕ) → begins_within rules text ≡ false
    → Some (answer_of_found rules given text size (found_by_call rules given text size)) ≡ answer_of rules given text size
unfolding answer_of
some_answer rules given text size whole =
    sym (ap (λ b. cond {A = Option Answer} b None (Some (answer_of_found rules given text size (found_by_call rules given text size)))) whole)

-- The answer of what is found in a word without changes.
plain_by : (utf8 : Bool) (text : List ℕ) (size : ℕ) (found : Found) (first digits kept told : List ℕ)
    → FindsPlain found first
    → digits ≡ kept → length kept ≡ length first
    → told ≡ cond utf8 (digits_of_characters (take size text) digits) digits
    → answer_with told (no_changes (length told)) false
    ≡ cond utf8 (answer_with (digits_of_characters (take size text) kept) (changes_in_characters text size found.changes) found.made)
    (answer_with kept found.changes found.made)
plain_by true text size found first digits kept told is same long tells =
    let told_is : told ≡ digits_of_characters (take size text) kept = tells
    ∙ ap (digits_of_characters (take size text)) same in
    answer_same _ _ _ _ _ _ told_is
    (ap (λ (xs : List ℕ). no_changes (length xs)) told_is
    ∙ sym (ap (changes_in_characters text size) is.no_changes ∙ none_of_characters (take size text) (text ++ 0 ∷ []) kept (length first)))
    (sym is.not_made)
plain_by false text size found first digits kept told is same long tells =
    let told_is : told ≡ kept = tells ∙ same in
    answer_same _ _ _ _ _ _ told_is
    (ap (λ (xs : List ℕ). no_changes (length xs)) told_is ∙ ap no_changes long ∙ sym is.no_changes)
    (sym is.not_made)

-- The answer for a word without changes, by the digits that are found.
pub plain_is : (rules : Rules) (given : Option CallMinima) (text : List ℕ) (size : ℕ) (first digits told : List ℕ)
    → begins_within rules text ≡ false → FindsPlain (found_by_call rules given text size) first
    → digits ≡ digits_by_no_hyphen rules given text first
    → told ≡ cond rules.utf8 (digits_of_characters (take size text) digits) digits
    → Some (plain_answer told) ≡ answer_of rules given text size
plain_is rules given text size first digits told whole is same tells =
    let found : Found = found_by_call rules given text size in
    let kept : List ℕ = digits_by_no_hyphen rules given text found.digits in
    let same_kept : digits ≡ kept = same ∙ ap (digits_by_no_hyphen rules given text) (sym is.digits_are) in
    let long : length kept ≡ length first = length-map-range_with_len _ 0 (length found.digits)
    ∙ ap (λ (xs : List ℕ). length xs) is.digits_are in
    ap Some (plain_by rules.utf8 text size found first digits kept told is same_kept long tells)
    ∙ some_answer rules given text size whole

-- The word without changes, written.
module _ (rules : Rules) (text : List ℕ) (size : ℕ) (first : List ℕ) (long : length first ≡ length (take size text)) where
  written_of : (found : Found) (digits : List ℕ) → FindsPlain found first
      → written_word (take size text) digits (no_changes (length (take size text))) ≡ written_word (take size text) digits found.changes
  written_of found digits is = ap (written_word (take size text) digits) (ap no_changes (sym long) ∙ sym is.no_changes)

  pub written_without_minima : (written digits : List ℕ) → FindsPlain (found_by_call rules None text size) first
      → written ≡ written_word (take size text) digits (no_changes (length (take size text)))
      → digits ≡ digits_by_no_hyphen rules None text first
      → written ≡ text_of_call rules None text size
  unfolding text_of_call
  written_without_minima written digits is marked kept =
      let found : Found = found_by_call rules None text size in
      marked ∙ written_of found digits is
      ∙ ap (λ (ds : List ℕ). written_word (take size text) ds found.changes) (kept ∙ ap (digits_by_no_hyphen rules None text) (sym is.digits_are))

  pub written_with_minima : (minima : CallMinima) (written : List ℕ) → FindsPlain (found_by_call rules (Some minima) text size) first
      → written ≡ written_word (take size text) first (no_changes (length (take size text)))
      → written ≡ text_of_call rules (Some minima) text size
  unfolding text_of_call
  written_with_minima minima written is marked =
      let found : Found = found_by_call rules (Some minima) text size in
      marked ∙ written_of found first is
      ∙ ap (λ (ds : List ℕ). written_word (take size text) ds found.changes) (sym is.digits_are)

-- The answer in characters.
pub in_characters_is : (rules : Rules) (given : Option CallMinima) (text : List ℕ) (size : ℕ) (first digits : List ℕ) (changes : List (Option ChangeAt)) (answer : CallAnswer)
    → begins_within rules text ≡ false → rules.utf8 ≡ true → (found_by_call rules given text size).digits ≡ first
    → digits ≡ digits_by_no_hyphen rules given text first
    → (found_by_call rules given text size).changes ≡ changes
    → answer.digits.items ≡ digits_of_characters (take size text) digits
    → placed_all answer.changes.items ≡ changes_in_characters text size changes
    → answer.made ≡ (found_by_call rules given text size).made
    → Some (answer_view answer) ≡ answer_of rules given text size
in_characters_is rules given text size first digits changes answer whole utf8 digits_are same changes_are tells tells_changes made =
    let found : Found = found_by_call rules given text size in
    let kept : List ℕ = digits_by_no_hyphen rules given text found.digits in
    let same_kept : digits ≡ kept = same ∙ ap (digits_by_no_hyphen rules given text) (sym digits_are) in
    let long : length (changes_in_characters text size found.changes) ≡ length (digits_of_characters (take size text) kept)
    = length-map (last_bytes (take size text)) _ ∙ sym (length-map (last_bytes (take size text)) _) in
    let view = view_with answer (digits_of_characters (take size text) kept) (changes_in_characters text size found.changes) found.made
    (tells ∙ ap (digits_of_characters (take size text)) same_kept) (tells_changes ∙ ap (changes_in_characters text size) (sym changes_are)) made long in
    ap Some (view
    ∙ sym (ap (λ b. cond {A = Answer} b (answer_with (digits_of_characters (take size text) kept) (changes_in_characters text size found.changes) found.made)
    (answer_with kept found.changes found.made)) utf8))
    ∙ some_answer rules given text size whole
