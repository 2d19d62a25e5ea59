-- Texts in which no change is made, and their parts.
use Rattle.std.proofs.Common.{◌≡◌, ℕ, zero, suc, ◌+◌, ◌-◌, ◌<◌, ◌≤◌, Bool, true, false, cond, List, [], ◌∷◌, ◌++◌, map, length, get_or, set, take, replicate, Option, None, Some, refl, sym, ap, subst, ◌∙◌, arith, drop, inl, inr, nat_lt, ◌||◌, ◌==◌, ℤ}
use Rattle.std.specs.Char.{is_ascii_digit}
use Rattle.std.specs.List.{range_with_len, list_any}
use Rattle.std.proofs.lemmas.Bool.{cases_eq, cases_lt, or_parts}
use Rattle.std.proofs.lemmas.Bool.Decides.{nat_tests}
use Rattle.std.specs.Option.{option_or}
use Rattle.std.proofs.lemmas.List.{drop-map, get_or-append_right, get_or-drop, get_or-replicate, get_or-set_other, get_or-set_same, get_or-take, get_or_append_left, get_or_default, length-drop, length-replicate, length-set, length-take-le, set-get_or, take-map}
use Rattle.std.proofs.lemmas.Slice.{drop-put_mid}
use borrow.Rule.Slice.PartMut.{post_of, put_mid, same_len_mid}
use Rattle.std.proofs.lemmas.List.FromFn.{fill_by_all}
use Rattle.libhyphen_files.specs.Bytes.{before_nul}
use Rattle.libhyphen_files.specs.Files.{Rules}
use Rattle.libhyphen_files.specs.Levels.{Level}
use Rattle.libhyphen_files.specs.Vectors.{BeginsSomeKey}
use Rattle.libhyphen_rule.specs.Calls.{MayCount, SomeMayCount}
use Rattle.libhyphen_rule.specs.Counting.{shown}
use Rattle.libhyphen_rule.specs.Minima.{changes_but, digits_but, left_goes, right_goes, goes_before, goes_after}
use Rattle.libhyphen_rule.specs.OneLevel.{ChangeAt, is_odd, level_changes, level_digits}
use Rattle.libhyphen_rule.specs.Parts.{Asked, Asking, Found, PartMinima, Parting, next_level_found, change_with, changes_with, digit_with, digits_with, ends_part, found_by_next_level, found_in, is_within, part_text, parted_up_to, seen_after, some_change, first_level_found, with_behind, with_part, without_left_of_part, without_right_of_part, word_found}
use Rattle.libhyphen_rule.specs.Private.PlainWords.{BeginsNone, HasNoDigits, FindsPlain}
use Rattle.libhyphen_rule.specs.Private.PlainCompounds.{plain_found, plain_part_of}
use Rattle.libhyphen_rule.proofs.PlacesOfParts.{map_range_agree, within_before}
use Rattle.libhyphen_rule.proofs.WordsFound.{next_level_alone, next_level_whole, left_of, put_of, right_of, seen_set, first_level_of}
use Rattle.libhyphen_rule.proofs.PlainWords.{empty_digits, empty_plain}
use Rattle.libhyphen_rule.proofs.Partings.{append_none, found_whole, parted_asked}

-- ---- Lists without changes.

none_read : (n k : ℕ) → get_or (replicate {A = Option ChangeAt} n None) k None ≡ None
none_read zero k = refl
none_read (suc n) zero = refl
none_read (suc n) (suc k) = none_read n k

none_all : (f : ℕ → Option ChangeAt) (n m : ℕ) → m ≡ n → ((k : ℕ) → k < n → f k ≡ None) → replicate m None ≡ map f (range_with_len 0 n)
none_all f n m same none =
    fill_by_all f (replicate m None) n None (length-replicate m None ∙ same)
    (λ k lt. none_read m k ∙ sym (none k lt))

some_none : (n : ℕ) → some_change (replicate n None) ≡ false
some_none zero = refl
some_none (suc n) = some_none n

taken_some_none : (n k : ℕ) → some_change (take k (replicate n None)) ≡ false
taken_some_none n zero = refl
taken_some_none zero (suc k) = refl
taken_some_none (suc n) (suc k) = taken_some_none n k

none_or : (b : Bool) (x : Option ChangeAt) → x ≡ None → cond b None x ≡ None
none_or true x is = refl
none_or false x is = is

-- No change is taken away where there is none.
none_taken : (goes : ℕ → Bool) (n m : ℕ) → m ≡ n → replicate m None ≡ changes_but goes (replicate n None)
none_taken goes n m same =
    none_all (λ k. cond (goes k) None (get_or (replicate n None) k None)) (length (replicate {A = Option ChangeAt} n None)) m (same ∙ sym (length-replicate n None))
    (λ k lt. none_or (goes k) _ (none_read n k))

or_nones : (b : Bool) (x y : Option ChangeAt) → x ≡ None → y ≡ None → cond b (option_or x y) y ≡ None
or_nones true x y hx hy = ap (λ o. option_or o y) hx ∙ hy
or_nones false x y hx hy = hy

-- No change is put where there is none.
none_with : (n m begin count p : ℕ) → m ≡ n → replicate m None ≡ changes_with (replicate {A = Option ChangeAt} n None) begin count (replicate p None)
unfolding changes_with
none_with n m begin count p same =
    none_all (change_with (replicate n None) begin count (replicate p None)) (length (replicate {A = Option ChangeAt} n None)) m (same ∙ sym (length-replicate n None))
    (λ k lt. or_nones _ _ _ (none_read p (k - begin)) (none_read n k))

-- ---- Minima.

pub with_nothing_behind : (asked : Asked) → asked.behind ≡ [] → before_nul asked.text ≡ with_behind asked
unfolding with_behind
with_nothing_behind asked is = ap before_nul (sym (ap (λ b. asked.text ++ b) is ∙ append_none asked.text))

-- A list without changes is as good as an empty one.
left_alike : (utf8 : Bool) (least : ℤ) (text digits : List ℕ) (n : ℕ) → digits_but (left_goes utf8 least text []) digits ≡ digits_but (left_goes utf8 least text (replicate n None)) digits
left_alike utf8 least text digits n =
    map_range_agree (λ k. cond (left_goes utf8 least text [] k) 48 (get_or digits k 0)) (λ k. cond (left_goes utf8 least text (replicate n None) k) 48 (get_or digits k 0)) (length digits) 0
    (λ k lt. ap (λ o. cond (goes_before utf8 least text k o) 48 (get_or digits k 0)) (sym (none_read n k)))

right_alike : (utf8 : Bool) (least : ℤ) (word text digits : List ℕ) (n : ℕ) → digits_but (right_goes utf8 least word text []) digits ≡ digits_but (right_goes utf8 least word text (replicate n None)) digits
right_alike utf8 least word text digits n =
    map_range_agree (λ k. cond (right_goes utf8 least word text [] k) 48 (get_or digits k 0)) (λ k. cond (right_goes utf8 least word text (replicate n None) k) 48 (get_or digits k 0)) (length digits) 0
    (λ k lt. ap (λ o. cond (goes_after utf8 least word text k o) 48 (get_or digits k 0)) (sym (none_read n k)))

pub left_plain : (utf8 : Bool) (minima : PartMinima) (asked : Asked) (digits new : List ℕ) (parts : ℕ) → asked.at_left ≡ false → asked.behind ≡ []
    → length new ≡ length digits → new ≡ digits_but (left_goes utf8 minima.left (before_nul asked.text) []) digits
    → plain_found new parts ≡ without_left_of_part utf8 minima asked (plain_found digits parts)
left_plain utf8 minima asked digits new parts left none long is =
    left_of utf8 minima asked (plain_found digits parts) (before_nul asked.text) new (replicate (length new) None) left
    (with_nothing_behind asked none)
    (is ∙ left_alike utf8 minima.left (before_nul asked.text) digits (length digits))
    (none_taken (left_goes utf8 minima.left (before_nul asked.text) (replicate (length digits) None)) (length digits) (length new) long)

pub right_plain : (utf8 : Bool) (minima : PartMinima) (asked : Asked) (digits new : List ℕ) (parts : ℕ) → asked.at_right ≡ false → asked.behind ≡ []
    → length new ≡ length digits → new ≡ digits_but (right_goes utf8 minima.right asked.text (before_nul asked.text) []) digits
    → plain_found new parts ≡ without_right_of_part utf8 minima asked (plain_found digits parts)
right_plain utf8 minima asked digits new parts right none long is =
    right_of utf8 minima asked (plain_found digits parts) (before_nul asked.text) new (replicate (length new) None) right
    (with_nothing_behind asked none)
    (is ∙ right_alike utf8 minima.right asked.text (before_nul asked.text) digits (length digits))
    (none_taken (right_goes utf8 minima.right asked.text (before_nul asked.text) (replicate (length digits) None)) (length digits) (length new) long)

-- ---- Levels.

long_nones : (n m : ℕ) → m ≡ n → replicate {A = Option ChangeAt} m None ≡ replicate n None
long_nones n m is = ap (λ k. replicate k None) is

pub first_level_plain : (rules : Rules) (parts : ℕ) (text digits : List ℕ) (level : Level) → level ≡ rules.first_level → length digits ≡ length text
    → digits ≡ level_digits level text → level_changes level text ≡ replicate (length text) None → plain_found digits parts ≡ first_level_found rules parts text
first_level_plain rules parts text digits level is long digits_are none =
    first_level_of rules parts text level digits (replicate (length digits) None) false is digits_are
    (long_nones (length text) (length digits) long ∙ sym none) (sym (some_none (length digits)))

next_level_plain : (rules : Rules) (parts : ℕ) (text digits : List ℕ) (level : Level) → level ≡ rules.next_level → length digits ≡ length text
    → digits ≡ level_digits level text → level_changes level text ≡ replicate (length text) None
    → plain_found digits parts ≡ next_level_found rules parts text (replicate (length text) None)
next_level_plain rules parts text digits level is long digits_are none =
    next_level_alone rules parts text (replicate (length text) None) level digits (replicate (length digits) None) false is digits_are
    (long_nones (length text) (length digits) long ∙ sym none) (length-replicate (length text) None)
    (length-replicate (length digits) None ∙ long) (some_none (length text)) (sym (some_none (length digits)))

pub whole_by_next_level : (rules : Rules) (minima : PartMinima) (parts : ℕ) (asked : Asked) (digits second third : List ℕ) (level : Level) → level ≡ rules.next_level
    → length digits ≡ length asked.text → digits ≡ level_digits level asked.text → level_changes level asked.text ≡ replicate (length asked.text) None
    → plain_found second parts ≡ without_left_of_part rules.utf8 minima asked (plain_found digits parts)
    → plain_found third parts ≡ without_right_of_part rules.utf8 minima asked (plain_found second parts)
    → plain_found third parts ≡ found_by_next_level rules minima parts asked (replicate (length asked.text) None)
whole_by_next_level rules minima parts asked digits second third level is long digits_are none left right =
    next_level_whole rules minima parts asked (replicate (length asked.text) None) (plain_found digits parts) (plain_found second parts) (plain_found third parts)
    (next_level_plain rules parts asked.text digits level is long digits_are none) left right

-- ---- The finds in a text.

pub finds_plain : (found : Found) (digits : List ℕ) (parts : ℕ) → plain_found digits parts ≡ found → FindsPlain found digits
finds_plain found digits parts is = record {
  digits_are = sym (ap (λ f. f.digits) is);
  no_changes = sym (ap (λ f. f.changes) is);
  not_made = sym (ap (λ f. f.made) is);
}

pub has_parts : (found : Found) (digits : List ℕ) (parts : ℕ) → plain_found digits parts ≡ found → found.parts ≡ parts
has_parts found digits parts is = sym (ap (λ f. f.parts) is)

pub whole_plain : (rules : Rules) (minima : PartMinima) (depth parts : ℕ) (asked : Asked) (first_level new : List ℕ) → length first_level ≡ length asked.text
    → plain_found first_level parts ≡ first_level_found rules parts asked.text → list_any is_odd first_level ≡ false
    → plain_found new parts ≡ found_by_next_level rules minima parts asked (replicate (length asked.text) None)
    → plain_found new parts ≡ found_in rules minima depth parts asked
whole_plain rules minima depth parts asked first_level new long is even next_level =
    next_level ∙ ap (found_by_next_level rules minima parts asked) (sym (long_nones (length asked.text) (length first_level) long))
    ∙ found_whole rules minima depth parts asked (plain_found first_level parts) is even

-- ---- Parts.

-- The text is seen as it is at all times.
pub seen_plain : (asked : Asked) (end : ℕ) → asked.text ≡ seen_after asked asked.text end None
seen_plain asked end = sym (set-get_or asked.text end 0) ∙ seen_set asked asked.text end (get_or asked.text end 0) refl

-- The next part ends where the digits that are read so far say it.
pub ends_alike : (first_level now : List ℕ) (byte : ℕ) (r : Bool) → length now ≡ length first_level → get_or now byte 0 ≡ get_or first_level byte 0 → r ≡ ends_part now byte → ends_part first_level byte ≡ r
ends_alike first_level now byte r long same is =
    ap (λ d. is_odd d || byte + 1 == length first_level) (sym same) ∙ ap (λ (n : ℕ). is_odd (get_or now byte 0) || byte + 1 == n) (sym long) ∙ sym is

-- The digits of a part are put in the places of the whole's.
pub part_plain_put : (digits new part : List ℕ) (left : ℕ) (begin count : ℕ) (found : Found) → FindsPlain found part → length new ≡ length digits
    → new ≡ digits_with digits begin count part → plain_found new found.parts ≡ with_part (plain_found digits left) begin count (Some found)
part_plain_put digits new part left begin count found is long put =
    put_of (plain_found digits left) found begin count new (replicate (length new) None) false
    (put ∙ ap (digits_with digits begin count) (sym is.digits_are))
    (none_with (length digits) (length new) begin count (length part) long
    ∙ ap (changes_with (replicate (length digits) None) begin count) (sym is.no_changes))
    (sym (ap (λ xs. some_change (take count xs)) is.no_changes ∙ taken_some_none (length part) count))

-- So far parts were asked.
abbrev pub parting : List ℕ → ℕ → ℕ → List ℕ → Parting
parting digits parts begin seen = record { found = plain_found digits parts; begin = begin; seen = seen }

-- A part that ends behind a byte is asked, or none is.
pub parted_more : (ask : Asking) (whole : Asked) (first_level now new : List ℕ) (byte begin left after parts : ℕ) → ends_part first_level byte ≡ true → nat_lt (begin + 1) byte ≡ true
    → parted_up_to ask whole (plain_found first_level parts) byte ≡ parting now left begin whole.text
    → plain_found new after ≡ with_part (plain_found now left) begin (byte - begin - 1) (ask left (plain_part_of whole begin (byte + 1)))
    → parted_up_to ask whole (plain_found first_level parts) (byte + 1) ≡ parting new after (byte + 1) whole.text
parted_more ask whole first_level now new byte begin left after parts ends long before put =
    parted_asked ask whole (plain_found first_level parts) byte (parting now left begin whole.text) None
    (part_text whole.text begin (byte + 1) None) (plain_found new after) whole.text ends long before (sym (none_read (length now) byte)) refl put
    (seen_plain whole (byte + 1))

-- A part's text has no digits, and nothing stands behind it.
pub part_has_no_digits : (whole part : Asked) (begin end : ℕ) → part ≡ plain_part_of whole begin end → HasNoDigits whole.text → HasNoDigits part.text
unfolding part_text
part_has_no_digits whole part begin end is none =
    let text : part.text ≡ take (end - begin) (drop begin whole.text) = ap (λ a. a.text) is in
    ap (map shown) text ∙ sym (take-map shown (end - begin) (drop begin whole.text)) ∙ ap (take (end - begin)) (sym (drop-map shown begin whole.text))
    ∙ ap (λ xs. take (end - begin) (drop begin xs)) none ∙ sym text

pub part_length : (whole part : Asked) (begin end : ℕ) → part ≡ plain_part_of whole begin end → begin ≤ end → end ≤ length whole.text → length part.text ≡ end - begin
unfolding part_text
part_length whole part begin end is le within =
    ap (λ a. length a.text) is ∙ length-take-le (end - begin) (drop begin whole.text) (omega (arith, length-drop begin whole.text))

-- A pattern that may count in a part may count in the whole.
part_may_count : (level : Level) (whole part : Asked) (begin end : ℕ) → part ≡ plain_part_of whole begin end → begin ≤ end → end ≤ length whole.text
    → MayCount level part.text → MayCount level whole.text
unfolding part_text
part_may_count level whole part begin end is le within (inl dotted) = inl dotted
part_may_count level whole part begin end is le within (inr some) =
    let size = part_length whole part begin end is le within in
    let at : get_or part.text some.0 0 ≡ get_or whole.text (begin + some.0) 0 =
    ap (λ (a : Asked). get_or a.text some.0 0) is
    ∙ get_or-take (end - begin) (drop begin whole.text) some.0 0 (omega (arith, size, some.1)) ∙ get_or-drop begin whole.text some.0 0 in
    inr (begin + some.0, omega (arith, size, some.1, le, within), subst (λ (b : ℕ). BeginsSomeKey level.patterns b) at some.2)

pub part_some_may_count : (rules : Rules) (whole part : Asked) (begin end : ℕ) → part ≡ plain_part_of whole begin end → begin ≤ end → end ≤ length whole.text
    → SomeMayCount rules part.text → SomeMayCount rules whole.text
part_some_may_count rules whole part begin end is le within (inl first) = inl (part_may_count rules.first_level whole part begin end is le within first)
part_some_may_count rules whole part begin end is le within (inr next) = inr (part_may_count rules.next_level whole part begin end is le within next)

pub part_behind : (whole part : Asked) (begin end : ℕ) → part ≡ plain_part_of whole begin end → part.behind ≡ []
unfolding part_text
part_behind whole part begin end is = ap (λ a. a.behind) is

-- ---- The places of a part.

module _ (now part : List ℕ) (begin end : ℕ) where
  put_before : (k : ℕ) → begin ≤ length now → k < begin → get_or (put_mid begin (end - begin) now part) k 0 ≡ get_or now k 0
  put_before k le lt =
      get_or_append_left (take begin now) (part ++ post_of begin (end - begin) now) 0 k (omega (arith, length-take-le begin now le))
      ∙ get_or-take begin now k 0 lt

  put_within : (k d : ℕ) → begin ≤ length now → begin ≤ k → k - begin < length part → get_or (put_mid begin (end - begin) now part) k 0 ≡ get_or part (k - begin) d
  put_within k d le low lt =
      get_or-append_right (take begin now) (part ++ post_of begin (end - begin) now) begin k 0 (length-take-le begin now le) low
      ∙ get_or_append_left part (post_of begin (end - begin) now) 0 (k - begin) lt ∙ get_or_default part (k - begin) 0 d lt

  put_behind : (k : ℕ) → begin ≤ end → end ≤ length now → length part ≡ end - begin → end ≤ k → get_or (put_mid begin (end - begin) now part) k 0 ≡ get_or now k 0
  put_behind k le within long far =
      let e : end + (k - end) ≡ k = omega arith in
      ap (λ j. get_or (put_mid begin (end - begin) now part) j 0) (sym e) ∙ sym (get_or-drop end (put_mid begin (end - begin) now part) (k - end) 0)
      ∙ ap (λ xs. get_or xs (k - end) 0) (drop-put_mid begin (end - begin) now part end (omega arith) (omega arith) long)
      ∙ get_or-drop end now (k - end) 0 ∙ ap (λ j. get_or now j 0) e

within_part : (b n k : ℕ) → b ≤ k → k < b + n → is_within b n k ≡ true
within_part b n k low lt = grind (arith, nat_tests)

before_part : (b n k : ℕ) → k < b → is_within b n k ≡ false
before_part b n k lt = grind (arith, nat_tests)

-- A part's digits are in their places, and its last two places have those of the whole again.
abbrev pub put_back : List ℕ → List ℕ → ℕ → ℕ → List ℕ
put_back now part begin byte =
    set (set (put_mid begin (byte + 1 - begin) now part) (byte - 1) (get_or now (byte - 1) 0)) byte (get_or now byte 0)

pub put_back-length : (now part : List ℕ) (begin byte : ℕ) → length part ≡ byte + 1 - begin → begin ≤ byte → byte < length now → length (put_back now part begin byte) ≡ length now
put_back-length now part begin byte long le within =
    length-set _ byte (get_or now byte 0) ∙ length-set _ (byte - 1) (get_or now (byte - 1) 0)
    ∙ same_len_mid begin (byte + 1 - begin) now part (long ∙ sym (length-take-le (byte + 1 - begin) (drop begin now) (omega (arith, length-drop begin now))))

pub put_back-behind : (now part : List ℕ) (begin byte k : ℕ) → length part ≡ byte + 1 - begin → begin ≤ byte → byte < length now → byte < k
    → get_or (put_back now part begin byte) k 0 ≡ get_or now k 0
put_back-behind now part begin byte k long le within far =
    get_or-set_other _ byte k (get_or now byte 0) 0 (λ same. absurd (omega arith)) ∙ get_or-set_other _ (byte - 1) k (get_or now (byte - 1) 0) 0 (λ same. absurd (omega arith))
    ∙ put_behind now part begin (byte + 1) k (omega arith) (omega arith) long (omega arith)

pub put_back-is : (now part : List ℕ) (begin byte : ℕ) → length part ≡ byte + 1 - begin → begin + 1 < byte → byte < length now
    → put_back now part begin byte ≡ digits_with now begin (byte - begin - 1) part
unfolding digits_with
put_back-is now part begin byte long le within =
    let sized : length (put_back now part begin byte) ≡ length now = put_back-length now part begin byte long (omega arith) within in
    let first : List ℕ = put_mid begin (byte + 1 - begin) now part in
    let second : List ℕ = set first (byte - 1) (get_or now (byte - 1) 0) in
    let count : ℕ = byte - begin - 1 in
    let first_long : length first ≡ length now =
    same_len_mid begin (byte + 1 - begin) now part (long ∙ sym (length-take-le (byte + 1 - begin) (drop begin now) (omega (arith, length-drop begin now)))) in
    let second_long : length second ≡ length now = length-set first (byte - 1) (get_or now (byte - 1) 0) ∙ first_long in
    let kept : (k : ℕ) → is_within begin count k ≡ false → get_or now k 0 ≡ digit_with now begin count part k =
    λ k out. sym (ap (λ b. cond b (get_or part (k - begin) 48) (get_or now k 0)) out) in
    fill_by_all (digit_with now begin count part) (put_back now part begin byte) (length now) 0 sized
    (λ k lt. elim (cases_eq k byte) [
      | inl same ↦
          ap (λ j. get_or (put_back now part begin byte) j 0) same ∙ get_or-set_same second byte (get_or now byte 0) 0 (omega (arith, second_long))
          ∙ ap (λ j. get_or now j 0) (sym same) ∙ kept k (within_before begin count k (omega arith))
      | inr other ↦ get_or-set_other second byte k (get_or now byte 0) 0 other ∙ elim (cases_eq k (byte - 1)) [
        | inl same ↦
            ap (λ j. get_or second j 0) same ∙ get_or-set_same first (byte - 1) (get_or now (byte - 1) 0) 0 (omega (arith, first_long))
            ∙ ap (λ j. get_or now j 0) (sym same) ∙ kept k (within_before begin count k (omega arith))
        | inr apart ↦ get_or-set_other first (byte - 1) k (get_or now (byte - 1) 0) 0 apart ∙ elim (cases_lt k begin) [
          | inl low ↦ put_before now part begin (byte + 1) k (omega arith) low ∙ kept k (before_part begin count k low)
          | inr high ↦ elim (cases_lt k byte) [
            | inl in' ↦
                put_within now part begin (byte + 1) k 48 (omega arith) high (omega arith)
                ∙ sym (ap (λ b. cond b (get_or part (k - begin) 48) (get_or now k 0)) (within_part begin count k high (omega arith)))
            | inr far ↦ put_behind now part begin (byte + 1) k (omega arith) (omega arith) long (omega arith) ∙ kept k (within_before begin count k (omega arith))
          ]
        ]
      ]
    ])

-- ---- Words without digits.

pub no_digits : (word : List ℕ) → list_any is_ascii_digit word ≡ false → HasNoDigits word
no_digits [] none = refl
no_digits (b ∷ bs) none =
    ap (λ t. cond t 46 b ∷ map shown bs) (or_parts (is_ascii_digit b) (list_any is_ascii_digit bs) none).0
    ∙ ap (λ xs. b ∷ xs) (no_digits bs (or_parts (is_ascii_digit b) (list_any is_ascii_digit bs) none).1)

-- The same minima and the same digits in other words.
pub word_plain_is : (rules : Rules) (left left' right right' : ℤ) (word behind digits : List ℕ) → left ≡ left' → right ≡ right'
    → FindsPlain (word_found rules (record { left = left; right = right }) word behind) digits
    → FindsPlain (word_found rules (record { left = left'; right = right' }) word behind) digits
word_plain_is rules left left' right right' word behind digits of_left of_right is =
    subst (λ r. FindsPlain (word_found rules (record { left = left'; right = r }) word behind) digits) of_right
    (subst (λ l. FindsPlain (word_found rules (record { left = l; right = right }) word behind) digits) of_left is)

-- ---- Words in which the first level finds nothing.

even_zeros : (n : ℕ) → list_any is_odd (replicate {A = ℕ} n 48) ≡ false
even_zeros zero = refl
even_zeros (suc n) = even_zeros n

abbrev zeros : ℕ → List ℕ
zeros n = replicate n 48

zeros_are : (n byte : ℕ) → byte < length (zeros n) → get_or (zeros n) byte 0 ≡ 48
zeros_are n byte lt = get_or-replicate n byte 48 0 (omega (arith, length-replicate {A = ℕ} n 48))

-- The digits of a text in which no byte begins a key of the first level are those of the next level.
pub next_level_alone_plain : (rules : Rules) (minima : PartMinima) (depth parts : ℕ) (asked : Asked) (new : List ℕ) (level : Level)
    → level ≡ rules.first_level → HasNoDigits asked.text → BeginsNone level.patterns asked.text
    → plain_found new parts ≡ found_by_next_level rules minima parts asked (replicate (length asked.text) None)
    → plain_found new parts ≡ found_in rules minima depth parts asked
unfolding level_digits level_changes
next_level_alone_plain rules minima depth parts asked new level is plain none next_level =
    let first_level : List ℕ = zeros (length asked.text) in
    let long : length first_level ≡ length asked.text = length-replicate {A = ℕ} (length asked.text) 48 in
    whole_plain rules minima depth parts asked first_level new long
    (first_level_plain rules parts asked.text first_level level is long
    (empty_digits level.patterns asked.text plain none first_level long (zeros_are (length asked.text)))
    (empty_plain level.patterns asked.text plain none))
    (even_zeros (length asked.text)) next_level
