-- How many digits and changes are found in a word.
use Rattle.std.proofs.Common.{◌≡◌, ℕ, ℤ, zero, suc, inl, inr, ◌+◌, ◌-◌, ◌<◌, Bool, true, false, cond, List, [], ◌∷◌, length, map, take, drop, get_or, Option, None, Some, refl, sym, ap, ◌∙◌, arith, zero-add, nat_lt}
use Rattle.std.specs.Prelude.{◌&&◌, filter, fold, not, replicate, slice_set, count_by}
use Rattle.std.specs.List.{list_any, range_with_len}
use Rattle.std.proofs.lemmas.Bool.{cases_Bool}
use Rattle.std.proofs.lemmas.Bool.Decides.{nat_tests}
use Rattle.std.proofs.lemmas.Grind.{common_steps}
use Rattle.std.proofs.lemmas.List.{length-append, length-map, length-set}
use Rattle.std.proofs.lemmas.List.FromFn.{length-map-range_with_len, get_or-map-range_with_len}
use Rattle.std.proofs.lemmas.List.Sums.{count_by_more_no, count_by_more_yes}
use Rattle.std.proofs.Math.Seq.{take-length}
use Rattle.libhyphen_files.specs.Bytes.{before_nul, continues}
use Rattle.libhyphen_files.specs.Files.{Rules}
use Rattle.libhyphen_files.specs.Levels.{Level}
use Rattle.libhyphen_rule.specs.declared.calls.CallMinima.{CallMinima}
use Rattle.libhyphen_rule.specs.Calls.{Answer, answer_by, answer_in_bytes, answer_in_characters, answer_of, answer_of_found, begins_within, digits_by_no_hyphen, found_by_call, least_of, part_minima}
use Rattle.libhyphen_rule.specs.Counting.{Counted, counted_in, framed, shown}
use Rattle.libhyphen_rule.specs.Laws.{DigitsLieWithinTheWord, HasEachCharacter}
use Rattle.libhyphen_rule.specs.Minima.{left_goes, right_goes}
use Rattle.libhyphen_rule.specs.OneLevel.{ChangeAt, Claim, Made, claim, digit_behind, is_odd, level_changes, level_digits, made_at, made_up_to, made_with, offers, put}
use Rattle.libhyphen_rule.specs.Parts.{Asked, Asking, Found, PartMinima, Parting, ask_by, ask_none, next_level_found, changes_with, digits_with, ends_part, found_by_next_level, found_by_first_level, found_in, most_depth, part_asked, parted_up_to, first_level_found, with_part, with_part_to, without_left, without_left_of_part, without_right, without_right_of_part}
use Rattle.libhyphen_rule.specs.Words.{begins, characters, is_last, last_bytes}
use Rattle.libhyphen_rule.proofs.RaisedDigits.{behind_last}
use Rattle.libhyphen_rule.proofs.WordSteps.{kept_more, left_more}

-- ---- One level.

pub level_digits-length : (level : Level) (word : List ℕ) → length (level_digits level word) ≡ length word
unfolding level_digits
level_digits-length level word =
    length-map-range_with_len (digit_behind (offers (counted_in level.patterns (framed word))) (length word)) 0 (length word)

pub level_digits-last : (level : Level) (word : List ℕ) (byte : ℕ) → byte + 1 ≡ length word → get_or (level_digits level word) byte 0 ≡ 48
unfolding level_digits
level_digits-last level word byte last =
    let given = offers (counted_in level.patterns (framed word)) in
    get_or-map-range_with_len (digit_behind given (length word)) 0 (length word) byte byte 0 (omega (arith, last)) (zero-add byte)
    ∙ behind_last given (length word) byte (omega (arith, last))

put-length : (one : Claim) (changes : List (Option ChangeAt)) → length (put one changes) ≡ length changes
put-length one changes =
    elim (nat_lt 1 one.place) as (λ b. length (cond b (slice_set changes (one.place - 2) (Some one.change)) changes) ≡ length changes) [
      | true ↦ length-set changes (one.place - 2) (Some one.change)
      | false ↦ refl
    ]

made_with-length : (made : Made) (begin : ℕ) (one : Option Claim) → length (made_with made begin one).changes ≡ length made.changes
made_with-length made begin None = refl
made_with-length made begin (Some one) = put-length one made.changes

made_at-length : (counted : List Counted) (made : Made) (begin : ℕ) → length (made_at counted made begin).changes ≡ length made.changes
made_at-length counted made begin =
    elim (nat_lt begin made.next) as (λ b. length (cond {A = Made} b made (made_with made begin (claim counted begin))).changes ≡ length made.changes) [
      | true ↦ refl
      | false ↦ made_with-length made begin (claim counted begin)
    ]

fold_made-length : (counted : List Counted) (made : Made) (begins : List ℕ) → length (fold (made_at counted) made begins).changes ≡ length made.changes
fold_made-length counted made [] = refl
fold_made-length counted made (b ∷ bs) = fold_made-length counted (made_at counted made b) bs ∙ made_at-length counted made b

none-length : (n : ℕ) (nothing : Option ChangeAt) → length (replicate n nothing) ≡ n
none-length n nothing = grind (arith, common_steps)

pub level_changes-length : (level : Level) (word : List ℕ) → length (level_changes level word) ≡ length word
unfolding level_changes made_up_to
level_changes-length level word =
    fold_made-length (counted_in level.patterns (framed word)) (record { next = 1; changes = replicate (length word) None }) (range_with_len 1 (length word))
    ∙ none-length (length word) None

-- ---- Both levels.

-- The finds have a digit and a change, or none, for each byte of a number.
pub record HasSize (found : Found) (bytes : ℕ) : Type 0 where
  pub digits : length found.digits ≡ bytes
  pub changes : length found.changes ≡ bytes

left-size : (utf8 : Bool) (least : ℤ) (text : List ℕ) (found : Found) (n : ℕ) → HasSize found n → HasSize (without_left utf8 least text found) n
left-size utf8 least text found n has = record {
  digits = length-map-range_with_len (λ byte. cond (left_goes utf8 least text found.changes byte) 48 (get_or found.digits byte 0)) 0 (length found.digits) ∙ has.digits;
  changes = length-map-range_with_len (λ byte. cond (left_goes utf8 least text found.changes byte) None (get_or found.changes byte None)) 0 (length found.changes) ∙ has.changes;
}

right-size : (utf8 : Bool) (least : ℤ) (word text : List ℕ) (found : Found) (n : ℕ) → HasSize found n → HasSize (without_right utf8 least word text found) n
right-size utf8 least word text found n has = record {
  digits = length-map-range_with_len (λ byte. cond (right_goes utf8 least word text found.changes byte) 48 (get_or found.digits byte 0)) 0 (length found.digits) ∙ has.digits;
  changes = length-map-range_with_len (λ byte. cond (right_goes utf8 least word text found.changes byte) None (get_or found.changes byte None)) 0 (length found.changes) ∙ has.changes;
}

either-size : (b : Bool) (x y : Found) (n : ℕ) → HasSize x n → HasSize y n → HasSize (cond b x y) n
either-size true x y n hx hy = hx
either-size false x y n hx hy = hy

digits_with-length : (digits : List ℕ) (begin count : ℕ) (part : List ℕ) → length (digits_with digits begin count part) ≡ length digits
unfolding digits_with
digits_with-length digits begin count part = length-map-range_with_len _ 0 (length digits)

changes_with-length : (changes : List (Option ChangeAt)) (begin count : ℕ) (part : List (Option ChangeAt)) → length (changes_with changes begin count part) ≡ length changes
unfolding changes_with
changes_with-length changes begin count part = length-map-range_with_len _ 0 (length changes)

left_part-size : (utf8 : Bool) (minima : PartMinima) (asked : Asked) (found : Found) (n : ℕ) → HasSize found n → HasSize (without_left_of_part utf8 minima asked found) n
unfolding without_left_of_part
left_part-size utf8 minima asked found n has = either-size asked.at_left found _ n has (left-size utf8 minima.left _ found n has)

right_part-size : (utf8 : Bool) (minima : PartMinima) (asked : Asked) (found : Found) (n : ℕ) → HasSize found n → HasSize (without_right_of_part utf8 minima asked found) n
unfolding without_right_of_part
right_part-size utf8 minima asked found n has = either-size asked.at_right found _ n has (right-size utf8 minima.right asked.text _ found n has)

next_level-size : (rules : Rules) (parts : ℕ) (text : List ℕ) (tops : List (Option ChangeAt)) → length tops ≡ length text → HasSize (next_level_found rules parts text tops) (length text)
unfolding next_level_found
next_level-size rules parts text tops long = record {
  digits = level_digits-length rules.next_level text;
  changes = changes_with-length tops 0 (length text) (level_changes rules.next_level text) ∙ long;
}

found_by_next_level-size : (rules : Rules) (minima : PartMinima) (parts : ℕ) (asked : Asked) (tops : List (Option ChangeAt)) → length tops ≡ length asked.text
    → HasSize (found_by_next_level rules minima parts asked tops) (length asked.text)
unfolding found_by_next_level
found_by_next_level-size rules minima parts asked tops long =
    right_part-size rules.utf8 minima asked _ _ (left_part-size rules.utf8 minima asked _ _ (next_level-size rules parts asked.text tops long))

with_part-size : (whole : Found) (begin count : ℕ) (part : Option Found) (n : ℕ) → HasSize whole n → HasSize (with_part whole begin count part) n
unfolding with_part
with_part-size whole begin count None n has = has
with_part-size whole begin count (Some part) n has = record {
  digits = digits_with-length whole.digits begin count part.digits ∙ has.digits;
  changes = changes_with-length whole.changes begin count part.changes ∙ has.changes;
}

with_part_to-size : (ask : Asking) (whole : Asked) (parting : Parting) (byte n : ℕ) → HasSize parting.found n → HasSize (with_part_to ask whole parting byte).found n
unfolding with_part_to
with_part_to-size ask whole parting byte n has =
    elim (nat_lt (parting.begin + 1) byte)
    as (λ b. HasSize (cond {A = Parting} b (part_asked ask whole parting byte (get_or parting.found.changes byte None)) (record parting { begin = byte + 1 })).found n) [
      | true ↦ with_part-size parting.found parting.begin (byte - parting.begin - 1) _ n has
      | false ↦ has
    ]

fold_parts-size : (ask : Asking) (whole : Asked) (parting : Parting) (ends : List ℕ) (n : ℕ) → HasSize parting.found n → HasSize (fold (with_part_to ask whole) parting ends).found n
fold_parts-size ask whole parting [] n has = has
fold_parts-size ask whole parting (e ∷ es) n has = fold_parts-size ask whole (with_part_to ask whole parting e) es n (with_part_to-size ask whole parting e n has)

parted-size : (ask : Asking) (whole : Asked) (found : Found) (bytes n : ℕ) → HasSize found n → HasSize (parted_up_to ask whole found bytes).found n
unfolding parted_up_to
parted-size ask whole found bytes n has = fold_parts-size ask whole (record { found = found; begin = 0; seen = map shown whole.text }) (filter (ends_part found.digits) (range_with_len 0 bytes)) n has

first_level-size : (rules : Rules) (parts : ℕ) (text : List ℕ) → HasSize (first_level_found rules parts text) (length text)
unfolding first_level_found
first_level-size rules parts text = record { digits = level_digits-length rules.first_level text; changes = level_changes-length rules.first_level text }

found_by_first_level-size : (rules : Rules) (minima : PartMinima) (ask : Asking) (parts : ℕ) (asked : Asked)
    → HasSize (found_by_first_level rules minima ask parts asked (first_level_found rules parts asked.text)) (length asked.text)
found_by_first_level-size rules minima ask parts asked =
    let first_level = first_level_found rules parts asked.text in
    let has = first_level-size rules parts asked.text in
    either-size (list_any is_odd first_level.digits) _ _ (length asked.text) (parted-size ask asked first_level (length asked.text) (length asked.text) has)
    (found_by_next_level-size rules minima parts asked first_level.changes has.changes)

found_in-size : (rules : Rules) (minima : PartMinima) (depth parts : ℕ) (asked : Asked) → HasSize (found_in rules minima depth parts asked) (length asked.text)
unfolding found_in
found_in-size rules minima zero parts asked = found_by_first_level-size rules minima ask_none parts asked
found_in-size rules minima (suc depth) parts asked = found_by_first_level-size rules minima (ask_by (found_in rules minima depth)) parts asked

-- ---- A call.

pub call-size : (rules : Rules) (given : Option CallMinima) (text : List ℕ) (size : ℕ) → HasSize (found_by_call rules given text size) (length (take size text))
unfolding found_by_call
call-size rules given text size =
    right-size rules.utf8 _ (take size text) (before_nul text) _ _
    (left-size rules.utf8 _ (before_nul text) _ _
    (found_in-size rules (part_minima (least_of rules.first_level.minima given)) most_depth (length (take size text))
    (record { text = take size text; behind = drop size text; at_left = true; at_right = true })))

pub kept-length : (rules : Rules) (given : Option CallMinima) (text digits : List ℕ) → length (digits_by_no_hyphen rules given text digits) ≡ length digits
kept-length rules given text digits = length-map-range_with_len _ 0 (length digits)

-- ---- Characters.

-- One more byte that is the last one of a character, or is not.
last_more : (word : List ℕ) (n : ℕ) → is_last word n ≡ true
    → length (filter (is_last word) (range_with_len 0 (n + 1))) ≡ length (filter (is_last word) (range_with_len 0 n)) + 1
last_more word n is =
    let id : ℕ → ℕ = λ k. k in
    let ranged : (m : ℕ) → length (map id (filter (is_last word) (range_with_len 0 m))) ≡ length (filter (is_last word) (range_with_len 0 m)) = λ m. length-map (filter (is_last word) (range_with_len 0 m)) id in
    sym (ranged (n + 1)) ∙ ap length (kept_more id (is_last word) n is)
    ∙ length-append (map id (filter (is_last word) (range_with_len 0 n))) (n ∷ []) ∙ ap (λ (m : ℕ). m + 1) (ranged n)

not_last_more : (word : List ℕ) (n : ℕ) → is_last word n ≡ false
    → length (filter (is_last word) (range_with_len 0 (n + 1))) ≡ length (filter (is_last word) (range_with_len 0 n))
not_last_more word n is =
    let id : ℕ → ℕ = λ k. k in
    let ranged : (m : ℕ) → length (map id (filter (is_last word) (range_with_len 0 m))) ≡ length (filter (is_last word) (range_with_len 0 m)) = λ m. length-map (filter (is_last word) (range_with_len 0 m)) id in
    sym (ranged (n + 1)) ∙ ap length (left_more id (is_last word) n is) ∙ ranged n

-- A byte within the word is the last one of a character if the next one begins one.
inner_last : (word : List ℕ) (n : ℕ) → n + 1 < length word → is_last word n ≡ begins (get_or word (n + 1) 0)
inner_last word n lt = grind (arith, nat_tests)

end_last : (word : List ℕ) (n : ℕ) → n + 1 ≡ length word → is_last word n ≡ true
end_last word n e = grind (arith, nat_tests)

-- The characters that end before a byte are one fewer than those that begin before the next one.
ends_count : (word : List ℕ) → begins (get_or word 0 0) ≡ true → (k : ℕ) → k < length word
    → length (filter (is_last word) (range_with_len 0 k)) + 1 ≡ count_by begins (take (k + 1) word)
ends_count word whole zero lt =
    sym (count_by_more_yes begins word 0 0 lt whole)
ends_count word whole (suc k) lt =
    let same : k + 1 ≡ suc k = omega arith in
    let before : length (filter (is_last word) (range_with_len 0 k)) + 1 ≡ count_by begins (take (k + 1) word) = ends_count word whole k (omega arith) in
    let is = inner_last word k (omega arith) in
    let next : length (filter (is_last word) (range_with_len 0 (k + 1))) + 1 ≡ count_by begins (take (k + 1 + 1) word) =
    elim (cases_Bool (begins (get_or word (k + 1) 0))) [
      | inl begun ↦
          let more = last_more word k (is ∙ begun) in
          let counted = count_by_more_yes begins word (k + 1) 0 (omega arith) begun in
          omega (arith, more, before, counted)
      | inr within ↦
          let more = not_last_more word k (is ∙ within) in
          let counted = count_by_more_no begins word (k + 1) 0 (omega arith) within in
          omega (arith, more, before, counted)
    ] in
    ap (λ m. length (filter (is_last word) (range_with_len 0 m)) + 1) (sym same) ∙ next ∙ ap (λ m. count_by begins (take (m + 1) word)) same

pub last_bytes-length : (word : List ℕ) → continues (get_or word 0 0) ≡ false → length (last_bytes word) ≡ characters word
unfolding last_bytes
last_bytes-length [] whole = refl
last_bytes-length (b ∷ bs) whole =
    let word : List ℕ = b ∷ bs in
    let n : ℕ = length bs in
    let size : length word ≡ n + 1 = omega arith in
    ap (λ m. length (filter (is_last word) (range_with_len 0 m))) size ∙ last_more word n (end_last word n (sym size))
    ∙ ends_count word (ap not whole) n (omega arith) ∙ ap (λ m. count_by begins (take m word)) (sym size) ∙ ap (count_by begins) (take-length word)

take_begins : (size : ℕ) (text : List ℕ) → continues (get_or text 0 0) ≡ false → continues (get_or (take size text) 0 0) ≡ false
take_begins zero text whole = refl
take_begins (suc size) [] whole = refl
take_begins (suc size) (x ∷ xs) whole = whole

-- ---- The answer.

answer_by-size : (rules : Rules) (text : List ℕ) (size : ℕ) (found : Found) (digits : List ℕ) → begins_within rules text ≡ false
    → length digits ≡ length (take size text) → length found.changes ≡ length (take size text)
    → HasEachCharacter rules (take size text) (answer_by rules text size found digits)
answer_by-size rules text size found digits whole long long_changes =
    let word : List ℕ = take size text in
    let chars : Answer = answer_in_characters text size found digits in
    let bytes : Answer = answer_in_bytes found digits in
    elim (cases_Bool rules.utf8) [
      | inl utf8 ↦
          let starts : continues (get_or text 0 0) ≡ false = sym (ap (λ b. b && continues (get_or text 0 0)) utf8) ∙ whole in
          let count : length (last_bytes word) ≡ characters word = last_bytes-length word (take_begins size text starts) in
          let sized = sym (ap (λ b. cond b (characters word) (length word)) utf8) in (
            ap (λ b. length (cond {A = Answer} b chars bytes).digits) utf8 ∙ length-map (last_bytes word) _ ∙ count ∙ sized,
            ap (λ b. length (cond {A = Answer} b chars bytes).changes) utf8 ∙ length-map (last_bytes word) _ ∙ count ∙ sized,
          )
      | inr other ↦
          let sized = sym (ap (λ b. cond b (characters word) (length word)) other) in (
            ap (λ b. length (cond {A = Answer} b chars bytes).digits) other ∙ long ∙ sized,
            ap (λ b. length (cond {A = Answer} b chars bytes).changes) other ∙ long_changes ∙ sized,
          )
    ]

pub some_answer : (b : Bool) (made answer : Answer) → cond b None (Some made) ≡ Some answer → (b ≡ false) × (made ≡ answer)
some_answer true made answer is = cc
some_answer false made answer is = (refl, cc)

same_size : (rules : Rules) (word : List ℕ) (made answer : Answer) → made ≡ answer → HasEachCharacter rules word made → HasEachCharacter rules word answer
same_size rules word made answer is has = (ap (λ a. length a.digits) (sym is) ∙ has.0, ap (λ a. length a.changes) (sym is) ∙ has.1)

answer-size : (rules : Rules) (given : Option CallMinima) (text : List ℕ) (size : ℕ) (answer : Answer) → answer_of rules given text size ≡ Some answer
    → HasEachCharacter rules (take size text) answer
unfolding answer_of
answer-size rules given text size answer is =
    let found : Found = found_by_call rules given text size in
    let made : Answer = answer_of_found rules given text size found in
    let has = call-size rules given text size in
    let parts = some_answer (begins_within rules text) made answer is in
    same_size rules (take size text) made answer parts.1
    (answer_by-size rules text size found (digits_by_no_hyphen rules given text found.digits) parts.0
    (kept-length rules given text found.digits ∙ has.digits) has.changes)

pub digits_within : DigitsLieWithinTheWord
digits_within = (
  λ rules given text size.
      let has = call-size rules given text size in
      ((has.digits, has.changes), answer-size rules given text size),
  level_digits-last,
)
