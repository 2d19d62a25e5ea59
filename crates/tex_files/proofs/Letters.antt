-- The letters of a word as a key, or as a word of a dictionary.
use Rattle.std.proofs.Common.{◌≡◌, ◌⊎◌, ◌∙◌, ℕ, ◌&&◌, Bool, true, false, List, [], ◌∷◌, map, Option, Some, None, refl, sym, ap, subst, inl, inr}
use Rattle.std.specs.Prelude.{IsTrue, ◌↔◌}
use Rattle.std.specs.List.{list_all}
use Rattle.std.specs.Str.{is_utf8}
use Rattle.hyphenation_breaks.specs.Break.{Break, Change, plain_break, ascend_on}
use Rattle.hyphenation_breaks.specs.Invariant.{has_letter, are_entries, are_listed, is_value, stays_within, lists_within}
use Rattle.hyphenation_dictionary.specs.Maker.{fits_key}
use Rattle.hyphenation_breaks.specs.declared.entry.Entry.{Entry}
use Rattle.pattern_results.specs.Texts.{letters}
use Rattle.tex_files.specs.Spelling.{digit_values, entries_of_digits, entry_without_change, carries_nothing, unhyphenated, hyphens_from, breaks_of_hyphens, letter_cause}
use Rattle.pattern_results.specs.declared.errors.FileCause.TheVariants.{NotUtf8}
use Rattle.tex_files.specs.declared.group.Group.TheVariants.{Patterns, Exceptions}

pub either : {A : Type 0} → A ⊎ A → A
either (inl a) = a
either (inr a) = a

-- entries without changes fit in each kind of dictionary alike
pub same_entries : {C : Type 0} (change_of : C → Option Change) (payload_of : Option Change → C) → change_of (payload_of None) ≡ None → (key : List ℕ) (vs : List (ℕ × ℕ))
    → are_entries change_of key (map (entry_without_change payload_of) vs) ≡ are_entries (λ (change : Option Change). change) key (map (entry_without_change carries_nothing) vs)
same_entries {C} change_of payload_of none key vs = λ i. ascend_on key 0 (places vs i) && each vs i
  where
    places : (vs : List (ℕ × ℕ)) → map (λ e. e.place) (map (entry_without_change payload_of) vs) ≡ map (λ e. e.place) (map (entry_without_change carries_nothing) vs)
    places [] = refl
    places (v ∷ vs) = ap (λ ps. v.0 ∷ ps) (places vs)

    each : (vs : List (ℕ × ℕ))
        → list_all (λ (e : Entry C). is_value e.value && stays_within key e.place (change_of e.change)) (map (entry_without_change payload_of) vs)
        ≡ list_all (λ (e : Entry (Option Change)). is_value e.value && stays_within key e.place e.change) (map (entry_without_change carries_nothing) vs)
    each [] = refl
    each (v ∷ vs) = λ i. is_value v.1 && stays_within key v.0 (none i) && each vs i

places_said : {B : Type 0} (break_of : B → Break) (listing_of : Break → B) → ((place : ℕ) → break_of (listing_of (plain_break place)) ≡ plain_break place) → (ps : List ℕ)
    → map (λ b. (break_of b).place) (map (λ place. listing_of (plain_break place)) ps) ≡ map (λ place. (plain_break place).place) ps
places_said break_of listing_of same [] = refl
places_said break_of listing_of same (p ∷ ps) = λ i. (same p i).place ∷ places_said break_of listing_of same ps i

within_said : {B : Type 0} (break_of : B → Break) (listing_of : Break → B) → ((place : ℕ) → break_of (listing_of (plain_break place)) ≡ plain_break place) → (word : List ℕ) (ps : List ℕ)
    → list_all (λ b. lists_within word (break_of b).place (break_of b).change) (map (λ place. listing_of (plain_break place)) ps) ≡ list_all (λ place. lists_within word place None) ps
within_said break_of listing_of same word [] = refl
within_said break_of listing_of same word (p ∷ ps) = λ i. lists_within word (same p i).place (same p i).change && within_said break_of listing_of same word ps i

pub same_breaks : {B : Type 0} (break_of : B → Break) (listing_of : Break → B) → ((place : ℕ) → break_of (listing_of (plain_break place)) ≡ plain_break place) → (word : List ℕ) (ps : List ℕ)
    → are_listed break_of word (map (λ place. listing_of (plain_break place)) ps) ≡ are_listed plain_break word ps
same_breaks break_of listing_of same word ps = λ i. ascend_on word 0 (places_said break_of listing_of same ps i) && within_said break_of listing_of same word ps i

pub bad_letters : (text : List ℕ) → has_letter (letters text) ≡ true → is_utf8 (letters text) ≡ false → letter_cause Patterns text ≡ Some NotUtf8
bad_letters text l u = rw (l, u) refl

bad_by : (t : Bool) → t ≡ false → (l u : Bool) → l ≡ true → u ≡ true → IsTrue t ↔ IsTrue (l && u) → ⊥
bad_by true e l u hl hu h = absurd cc
bad_by false e true true hl hu h = absurd (no (h.1 refl))
  where
    no : false ≡ true → ⊥
    no x = cc
bad_by false e true false hl hu h = absurd cc
bad_by false e false u hl hu h = absurd cc

off : (t l u : Bool) → t ≡ false → l ≡ true → IsTrue t ↔ IsTrue (l && u) → u ≡ false
off t l true et el h = absurd (bad_by t et l true el refl h)
off t l false et el h = refl

on : (t l u : Bool) → t ≡ true → IsTrue t ↔ IsTrue (l && u) → u ≡ true
on t true u et h = h.0 et
on t false u et h = absurd (no (h.0 et))
  where
    no : false ≡ true → ⊥
    no x = cc

-- a key that can't have its entries
pub bad_entries : {C : Type 0} (change_of : C → Option Change) (payload_of : Option Change → C) (text key : List ℕ) (es : List (Entry C)) (t : Bool) → change_of (payload_of None) ≡ None
    → key ≡ letters text → es ≡ entries_of_digits payload_of text → has_letter (letters text) ≡ true → is_utf8 (letters text) ≡ true → IsTrue t ↔ IsTrue (fits_key change_of key es) → t ≡ false
    → letter_cause Patterns text ≡ Some NotUtf8
bad_entries change_of payload_of text key es t none hk he l u fits e =
    let is : fits_key change_of key es ≡ (has_letter (letters text) && are_entries change_of (letters text) (entries_of_digits payload_of text)) = rw (hk, he) refl in
    let so : IsTrue t ↔ IsTrue (has_letter (letters text) && are_entries change_of (letters text) (entries_of_digits payload_of text)) = subst (λ (b : Bool). IsTrue t ↔ IsTrue b) is fits in
    let none_fit = sym (same_entries change_of payload_of none (letters text) (digit_values 0 text)) ∙ off t (has_letter (letters text)) (are_entries change_of (letters text) (entries_of_digits payload_of text)) e l so in
    rw (l, u, none_fit) refl

pub good_entries : {C : Type 0} (change_of : C → Option Change) (payload_of : Option Change → C) (text key : List ℕ) (es : List (Entry C)) (t : Bool) → change_of (payload_of None) ≡ None
    → key ≡ letters text → es ≡ entries_of_digits payload_of text → has_letter (letters text) ≡ true → is_utf8 (letters text) ≡ true → IsTrue t ↔ IsTrue (fits_key change_of key es) → t ≡ true
    → letter_cause Patterns text ≡ None
good_entries change_of payload_of text key es t none hk he l u fits e =
    let is : fits_key change_of key es ≡ (has_letter (letters text) && are_entries change_of (letters text) (entries_of_digits payload_of text)) = rw (hk, he) refl in
    let so : IsTrue t ↔ IsTrue (has_letter (letters text) && are_entries change_of (letters text) (entries_of_digits payload_of text)) = subst (λ (b : Bool). IsTrue t ↔ IsTrue b) is fits in
    let all_fit = sym (same_entries change_of payload_of none (letters text) (digit_values 0 text)) ∙ on t (has_letter (letters text)) (are_entries change_of (letters text) (entries_of_digits payload_of text)) e so in
    rw (l, u, all_fit) refl

pub bad_word : (text : List ℕ) → is_utf8 (unhyphenated text) ≡ false → letter_cause Exceptions text ≡ Some NotUtf8
bad_word text u = rw u refl

off_one : (t u : Bool) → t ≡ false → IsTrue t ↔ IsTrue u → u ≡ false
off_one t u e h = off t true u e refl h

pub bad_breaks : {B : Type 0} (break_of : B → Break) (listing_of : Break → B) (text word : List ℕ) (bs : List B) (t : Bool) → ((place : ℕ) → break_of (listing_of (plain_break place)) ≡ plain_break place)
    → word ≡ unhyphenated text → bs ≡ breaks_of_hyphens listing_of text → is_utf8 (unhyphenated text) ≡ true → IsTrue t ↔ IsTrue (are_listed break_of word bs) → t ≡ false
    → letter_cause Exceptions text ≡ Some NotUtf8
bad_breaks break_of listing_of text word bs t same hw hb u fits e =
    let is : are_listed break_of word bs ≡ are_listed break_of (unhyphenated text) (breaks_of_hyphens listing_of text) = rw (hw, hb) refl in
    let none_fit = sym (same_breaks break_of listing_of same (unhyphenated text) (hyphens_from 0 text)) ∙ sym is ∙ off_one t (are_listed break_of word bs) e fits in
    rw (u, none_fit) refl

pub good_breaks : {B : Type 0} (break_of : B → Break) (listing_of : Break → B) (text word : List ℕ) (bs : List B) (t : Bool) → ((place : ℕ) → break_of (listing_of (plain_break place)) ≡ plain_break place)
    → word ≡ unhyphenated text → bs ≡ breaks_of_hyphens listing_of text → is_utf8 (unhyphenated text) ≡ true → IsTrue t ↔ IsTrue (are_listed break_of word bs) → t ≡ true
    → letter_cause Exceptions text ≡ None
good_breaks break_of listing_of text word bs t same hw hb u fits e =
    let is : are_listed break_of word bs ≡ are_listed break_of (unhyphenated text) (breaks_of_hyphens listing_of text) = rw (hw, hb) refl in
    let all_fit = sym (same_breaks break_of listing_of same (unhyphenated text) (hyphens_from 0 text)) ∙ sym is ∙ fits.0 e in
    rw (u, all_fit) refl
