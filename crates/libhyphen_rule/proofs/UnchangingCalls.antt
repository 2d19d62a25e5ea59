-- Calls by a dictionary whose patterns change no letters: they find no change, and lose no letter.
use Rattle.std.proofs.Common.{◌≡◌, ◌+◌, ◌-◌, ◌∙◌, ℕ, arith, zero, suc, inl, inr, Bool, true, false, cond, List, [], ◌∷◌, length, map, take, drop, get_or, Option, None, Some, ap, refl, zero-add, nat_lt}
use Rattle.std.specs.Prelude.{filter, fold, is_some, replicate}
use Rattle.std.specs.List.{list_any, range_with_len}
use Rattle.std.specs.Option.{option_or}
use Rattle.std.proofs.lemmas.Bool.{cases_lt}
use Rattle.std.proofs.lemmas.List.FromFn.{get_or-map-range_with_len, length-map-range_with_len}
use Rattle.std.proofs.lemmas.List.{get_or-replicate, get_or_past, length-replicate}
use Rattle.libhyphen_files.specs.Bytes.{before_nul}
use Rattle.libhyphen_files.specs.Files.{Rules}
use Rattle.libhyphen_files.specs.Levels.{Level, HasNoChanges}
use Rattle.libhyphen_rule.specs.declared.calls.CallMinima.{CallMinima}
use Rattle.libhyphen_rule.specs.Calls.{at_least_two, digits_written, found_by_call, least_of, part_minima, text_of_call}
use Rattle.libhyphen_rule.specs.Counting.{shown}
use Rattle.libhyphen_rule.specs.Laws.{CallsLoseNoLetter}
use Rattle.libhyphen_rule.specs.Minima.{changes_but, left_goes, right_goes}
use Rattle.libhyphen_rule.specs.OneLevel.{ChangeAt, is_odd, level_changes}
use Rattle.libhyphen_rule.specs.Parts.{Asked, Asking, asked_of, part_text, Found, PartMinima, Parting, ask_by, ask_none, changes_with, ends_part, first_level_found, found_by_first_level, found_by_next_level, found_in, is_within, most_depth, next_level_found, part_asked, parted_up_to, with_behind, with_part, with_part_to, without_left, without_left_of_part, without_right, without_right_of_part}
use Rattle.libhyphen_rule.proofs.MarksOut.{taken_out}
use Rattle.libhyphen_rule.proofs.PlacedChanges.{no_changes}

abbrev none_of_each : ℕ → List (Option ChangeAt)
none_of_each n = replicate n None

none_replicated : (n k : ℕ) → get_or (none_of_each n) k None ≡ None
none_replicated n k = elim (cases_lt k n) [
  | inl lt ↦ get_or-replicate n k None None lt
  | inr le ↦ let long : length (none_of_each n) ≡ n = length-replicate n None in get_or_past (none_of_each n) k None (omega (arith, le, long))
]

none_either_way : (goes : Bool) (change : Option ChangeAt) → change ≡ None → cond {A = Option ChangeAt} goes None change ≡ None
none_either_way true change none = refl
none_either_way false change none = none

-- No place has a change.
abbrev pub NoneThere : List (Option ChangeAt) → Type 0
NoneThere changes = (k : ℕ) → get_or changes k None ≡ None

none_of_mapped : (f : ℕ → Option ChangeAt) (n : ℕ) → ((k : ℕ) → f k ≡ None) → NoneThere (map f (range_with_len 0 n))
none_of_mapped f n none k = elim (cases_lt k n) [
  | inl lt ↦ get_or-map-range_with_len f 0 n k k None lt (zero-add k) ∙ none k
  | inr le ↦
      let long : length (map f (range_with_len 0 n)) ≡ n = length-map-range_with_len f 0 n in
      get_or_past (map f (range_with_len 0 n)) k None (omega (arith, le, long))
]

none_of_changes_but : (goes : ℕ → Bool) (changes : List (Option ChangeAt)) → NoneThere changes → NoneThere (changes_but goes changes)
none_of_changes_but goes changes none =
    none_of_mapped (λ byte. cond (goes byte) None (get_or changes byte None)) (length changes)
    (λ k. none_either_way (goes k) (get_or changes k None) (none k))

none_of_changes_with : (changes : List (Option ChangeAt)) (begin count : ℕ) (part : List (Option ChangeAt)) → NoneThere changes → NoneThere part
    → NoneThere (changes_with changes begin count part)
unfolding changes_with
none_of_changes_with changes begin count part none none_of_part =
    none_of_mapped (λ byte. cond (is_within begin count byte) (option_or (get_or part (byte - begin) None) (get_or changes byte None)) (get_or changes byte None)) (length changes)
    (λ k. elim (is_within begin count k) as (λ b. cond b (option_or (get_or part (k - begin) None) (get_or changes k None)) (get_or changes k None) ≡ None) [
      | true ↦ ap (λ p. option_or p (get_or changes k None)) (none_of_part (k - begin)) ∙ none k
      | false ↦ none k
    ])

none_of_level : (level : Level) → HasNoChanges level.patterns → (word : List ℕ) → NoneThere (level_changes level word)
unfolding level_changes
none_of_level level plain word k = ap (λ changes. get_or changes k None) (no_changes level.patterns plain word) ∙ none_replicated (length word) k

none_of_either : (b : Bool) (x y : Found) → NoneThere x.changes → NoneThere y.changes → NoneThere (cond b x y).changes
none_of_either true x y in_x in_y = in_x
none_of_either false x y in_x in_y = in_y

left_of_part_none : (utf8 : Bool) (minima : PartMinima) (asked : Asked) (found : Found) → NoneThere found.changes
    → NoneThere (without_left_of_part utf8 minima asked found).changes
unfolding without_left_of_part
left_of_part_none utf8 minima asked found none =
    none_of_either asked.at_left found (without_left utf8 minima.left (with_behind asked) found) none
    (none_of_changes_but (left_goes utf8 minima.left (with_behind asked) found.changes) found.changes none)

right_of_part_none : (utf8 : Bool) (minima : PartMinima) (asked : Asked) (found : Found) → NoneThere found.changes
    → NoneThere (without_right_of_part utf8 minima asked found).changes
unfolding without_right_of_part
right_of_part_none utf8 minima asked found none =
    none_of_either asked.at_right found (without_right utf8 minima.right asked.text (with_behind asked) found) none
    (none_of_changes_but (right_goes utf8 minima.right asked.text (with_behind asked) found.changes) found.changes none)

-- A part, if it is asked, has no change.
abbrev NoneIfAsked : Option Found → Type 0
NoneIfAsked None = Unit {0}
NoneIfAsked (Some part) = NoneThere part.changes

with_part_none : (whole : Found) (begin count : ℕ) (part : Option Found) → NoneThere whole.changes → NoneIfAsked part
    → NoneThere (with_part whole begin count part).changes
unfolding with_part
with_part_none whole begin count None none asked = none
with_part_none whole begin count (Some part) none asked = none_of_changes_with whole.changes begin count part.changes none asked

-- Whatever an asking finds has no change.
abbrev AsksPlain : Asking → Type 0
AsksPlain ask = (parts : ℕ) (asked : Asked) → NoneIfAsked (ask parts asked)

with_part_to_none : (ask : Asking) → AsksPlain ask → (whole : Asked) (parting : Parting) (byte : ℕ) → NoneThere parting.found.changes
    → NoneThere (with_part_to ask whole parting byte).found.changes
unfolding with_part_to
with_part_to_none ask asks whole parting byte none =
    elim (nat_lt (parting.begin + 1) byte)
    as (λ b. NoneThere (cond {A = Parting} b (part_asked ask whole parting byte (get_or parting.found.changes byte None)) (record parting { begin = byte + 1 })).found.changes) [
      | true ↦ with_part_none parting.found parting.begin (byte - parting.begin - 1) (ask parting.found.parts (asked_of whole parting.begin (byte + 1) (part_text parting.seen parting.begin (byte + 1) (get_or parting.found.changes byte None)))) none (asks parting.found.parts (asked_of whole parting.begin (byte + 1) (part_text parting.seen parting.begin (byte + 1) (get_or parting.found.changes byte None))))
      | false ↦ none
    ]

fold_parts_none : (ask : Asking) → AsksPlain ask → (whole : Asked) (parting : Parting) (ends : List ℕ) → NoneThere parting.found.changes
    → NoneThere (fold (with_part_to ask whole) parting ends).found.changes
fold_parts_none ask asks whole parting [] none = none
fold_parts_none ask asks whole parting (end ∷ ends) none =
    fold_parts_none ask asks whole (with_part_to ask whole parting end) ends (with_part_to_none ask asks whole parting end none)

parted_none : (ask : Asking) → AsksPlain ask → (whole : Asked) (found : Found) (bytes : ℕ) → NoneThere found.changes
    → NoneThere (parted_up_to ask whole found bytes).found.changes
unfolding parted_up_to
parted_none ask asks whole found bytes none =
    fold_parts_none ask asks whole (record { found = found; begin = 0; seen = map shown whole.text }) (filter (ends_part found.digits) (range_with_len 0 bytes)) none

next_level_none : (rules : Rules) → HasNoChanges rules.next_level.patterns → (parts : ℕ) (text : List ℕ) (tops : List (Option ChangeAt)) → NoneThere tops
    → NoneThere (next_level_found rules parts text tops).changes
unfolding next_level_found
next_level_none rules next parts text tops none = none_of_changes_with tops 0 (length text) (level_changes rules.next_level text) none (none_of_level rules.next_level next text)

by_next_level_none : (rules : Rules) → HasNoChanges rules.next_level.patterns → (minima : PartMinima) (parts : ℕ) (asked : Asked) (tops : List (Option ChangeAt))
    → NoneThere tops → NoneThere (found_by_next_level rules minima parts asked tops).changes
unfolding found_by_next_level
by_next_level_none rules next minima parts asked tops none =
    let found : Found = next_level_found rules parts asked.text tops in
    let kept : Found = without_left_of_part rules.utf8 minima asked found in
    right_of_part_none rules.utf8 minima asked kept (left_of_part_none rules.utf8 minima asked found (next_level_none rules next parts asked.text tops none))

pub first_level_none : (rules : Rules) → HasNoChanges rules.first_level.patterns → (parts : ℕ) (text : List ℕ) → NoneThere (first_level_found rules parts text).changes
unfolding first_level_found
first_level_none rules first parts text = none_of_level rules.first_level first text

by_first_level_none : (rules : Rules) → HasNoChanges rules.first_level.patterns → HasNoChanges rules.next_level.patterns → (minima : PartMinima) (ask : Asking)
    → AsksPlain ask → (parts : ℕ) (asked : Asked)
    → NoneThere (found_by_first_level rules minima ask parts asked (first_level_found rules parts asked.text)).changes
by_first_level_none rules first next minima ask asks parts asked =
    let found : Found = first_level_found rules parts asked.text in
    let none = first_level_none rules first parts asked.text in
    none_of_either (list_any is_odd found.digits) (parted_up_to ask asked found (length asked.text)).found (found_by_next_level rules minima parts asked found.changes)
    (parted_none ask asks asked found (length asked.text) none)
    (by_next_level_none rules next minima parts asked found.changes none)

ask_by_none : (find : ℕ → Asked → Found) → ((parts : ℕ) (asked : Asked) → NoneThere (find parts asked).changes) → AsksPlain (ask_by find)
ask_by_none find none zero asked = tt
ask_by_none find none (suc parts) asked = none parts asked

found_in_none : (rules : Rules) → HasNoChanges rules.first_level.patterns → HasNoChanges rules.next_level.patterns → (minima : PartMinima) (depth parts : ℕ) (asked : Asked)
    → NoneThere (found_in rules minima depth parts asked).changes
unfolding found_in
found_in_none rules first next minima zero parts asked = by_first_level_none rules first next minima ask_none (λ parts asked. tt) parts asked
found_in_none rules first next minima (suc depth) parts asked =
    by_first_level_none rules first next minima (ask_by (found_in rules minima depth)) (ask_by_none (found_in rules minima depth) (found_in_none rules first next minima depth)) parts asked

call_none : (rules : Rules) → HasNoChanges rules.first_level.patterns → HasNoChanges rules.next_level.patterns
    → (given : Option CallMinima) (text : List ℕ) (size : ℕ) → NoneThere (found_by_call rules given text size).changes
unfolding found_by_call
call_none rules first next given text size =
    let least = least_of rules.first_level.minima given in
    let base : Found = found_in rules (part_minima least) most_depth (length (take size text))
    (record { text = take size text; behind = drop size text; at_left = true; at_right = true }) in
    let none : NoneThere base.changes = found_in_none rules first next (part_minima least) most_depth (length (take size text))
    (record { text = take size text; behind = drop size text; at_left = true; at_right = true }) in
    let kept : Found = without_left rules.utf8 (at_least_two least.left) (before_nul text) base in
    none_of_changes_but (right_goes rules.utf8 (at_least_two least.right) (take size text) (before_nul text) kept.changes) kept.changes
    (none_of_changes_but (left_goes rules.utf8 (at_least_two least.left) (before_nul text) base.changes) base.changes none)

pub any_none : (changes : List (Option ChangeAt)) → NoneThere changes → list_any is_some changes ≡ false
any_none [] none = refl
any_none (None ∷ changes) none = any_none changes (λ k. none (suc k))
any_none (Some change ∷ changes) none = let no : Some change ≡ None = none zero in absurd (cc)

pub none_lost : CallsLoseNoLetter
unfolding text_of_call
none_lost rules given text size first next plain =
    let found : Found = found_by_call rules given text size in
    taken_out (take size text) (digits_written rules given text found) found.changes plain (any_none found.changes (call_none rules first next given text size))
