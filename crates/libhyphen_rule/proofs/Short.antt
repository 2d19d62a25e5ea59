-- Places that have too few letters on one side, and places that have enough.
use Rattle.std.proofs.Common.{◌≡◌, ℕ, ◌+◌, ◌-◌, ◌<◌, ◌≤◌, Bool, true, false, List, length, drop, get_or, Option, Some, None, ℤ, pos, ◌+ℤ◌, sym, ap, ◌∙◌, arith}
use Rattle.std.specs.Prelude.{int_lt, option_map, ◌&&◌}
use Rattle.std.specs.List.{before_first, after_first}
use Rattle.std.proofs.lemmas.Bool.{and_from, and_left, and_right, lt-ltb, le-ltb}
use Rattle.std.proofs.lemmas.Int.{ints}
use Rattle.libhyphen_rule.specs.declared.one_level.PlacedChange.{PlacedChange}
use Rattle.libhyphen_rule.specs.Found.{placed, placed_all}
use Rattle.libhyphen_rule.specs.OneLevel.{ChangeAt}
use Rattle.libhyphen_rule.specs.Letters.{letters, letters_in_first, letters_in_hundred, characters_from, digits_at_begin, digits_at_end}
use Rattle.libhyphen_rule.specs.Minima.{has_equals, is_equals, is_below, is_short_before, is_short_after, goes_before, goes_after}
use Rattle.libhyphen_rule.proofs.PlacesOfParts.{placed_get}
use Rattle.libhyphen_rule.proofs.LetterCounts.{letters_rise, characters_fall}

-- More letters are not below a minimum either.
not_below : (a b : ℕ) (least : ℤ) → a ≤ b → int_lt (pos a) least ≡ false → int_lt (pos b) least ≡ false
not_below a b least le h = grind (arith, ints)

-- The change of a place that is read. Behind the list there is none.
pub change_read : (changes : List (Option PlacedChange)) (k : ℕ) → get_or (placed_all changes) k None ≡ option_map placed (get_or changes k None)
change_read changes k = sym (placed_get changes k)

-- A place with too few letters before it.
pub is_short_left : (utf8 : Bool) (least : ℤ) (text : List ℕ) (byte : ℕ) → byte < length text
    → int_lt (pos (letters_in_first utf8 text (byte + 1))) (least +ℤ pos (digits_at_begin text)) ≡ true → is_short_before utf8 least text byte ≡ true
is_short_left utf8 least text byte lt few = and_from _ _ (lt-ltb byte (length text) lt) few

-- A place with enough letters before it, and each one behind that.
pub is_enough_left : (utf8 : Bool) (least : ℤ) (text : List ℕ) (byte k : ℕ) → byte ≤ k
    → int_lt (pos (letters_in_first utf8 text (byte + 1))) (least +ℤ pos (digits_at_begin text)) ≡ false → is_short_before utf8 least text k ≡ false
is_enough_left utf8 least text byte k le enough =
    and_right _ _ (not_below _ _ (least +ℤ pos (digits_at_begin text)) (letters_rise utf8 text (byte + 1) (k + 1) (omega arith)) enough)

-- A place behind the text.
pub is_outside_left : (utf8 : Bool) (least : ℤ) (text : List ℕ) (k : ℕ) → length text ≤ k → is_short_before utf8 least text k ≡ false
is_outside_left utf8 least text k le = and_left _ _ (le-ltb k (length text) le)

pub stays_left : (utf8 : Bool) (least : ℤ) (text : List ℕ) (byte : ℕ) (item : Option ChangeAt) → is_short_before utf8 least text byte ≡ false
    → goes_before utf8 least text byte item ≡ false
stays_left utf8 least text byte None enough = enough
stays_left utf8 least text byte (Some change) enough = grind (arith, enough)

pub goes_left_none : (utf8 : Bool) (least : ℤ) (text : List ℕ) (byte : ℕ) (item : Option ChangeAt) → item ≡ None → is_short_before utf8 least text byte ≡ true
    → goes_before utf8 least text byte item ≡ true
goes_left_none utf8 least text byte item is short = ap (goes_before utf8 least text byte) is ∙ short

pub goes_left_some : (utf8 : Bool) (least : ℤ) (text : List ℕ) (byte : ℕ) (item : Option ChangeAt) (change : ChangeAt) (result : Bool) → item ≡ Some change
    → is_short_before utf8 least text byte ≡ true
    → result ≡ (has_equals change.text && is_below (letters_in_first utf8 text (byte + 1 - change.pos) + letters utf8 (before_first is_equals change.text)) least)
    → goes_before utf8 least text byte item ≡ result
goes_left_some utf8 least text byte item change result is short value =
    ap (goes_before utf8 least text byte) is
    ∙ ap (λ b. b && has_equals change.text && is_below (letters_in_first utf8 text (byte + 1 - change.pos) + letters utf8 (before_first is_equals change.text)) least) short
    ∙ sym value

-- A place with too few characters behind it.
pub is_short_right : (utf8 : Bool) (least : ℤ) (word : List ℕ) (byte : ℕ) → 0 < byte
    → int_lt (pos (characters_from utf8 word (byte + 1))) (least +ℤ pos (digits_at_end word)) ≡ true → is_short_after utf8 least word byte ≡ true
is_short_right utf8 least word byte lt few = and_from _ _ (lt-ltb 0 byte lt) few

-- A place with enough characters behind it, and each one before that.
pub is_enough_right : (utf8 : Bool) (least : ℤ) (word : List ℕ) (end k : ℕ) → k < end → end ≤ length word
    → int_lt (pos (characters_from utf8 word end)) (least +ℤ pos (digits_at_end word)) ≡ false → is_short_after utf8 least word k ≡ false
is_enough_right utf8 least word end k lt within enough =
    and_right _ _ (not_below _ _ (least +ℤ pos (digits_at_end word)) (characters_fall utf8 word (k + 1) end (omega arith) within) enough)

-- The place behind the first byte.
pub is_first_right : (utf8 : Bool) (least : ℤ) (word : List ℕ) (k : ℕ) → k < 1 → is_short_after utf8 least word k ≡ false
is_first_right utf8 least word k lt = and_left _ _ (le-ltb 0 k (omega arith))

pub stays_right : (utf8 : Bool) (least : ℤ) (word text : List ℕ) (byte : ℕ) (item : Option ChangeAt) → is_short_after utf8 least word byte ≡ false
    → goes_after utf8 least word text byte item ≡ false
stays_right utf8 least word text byte None enough = enough
stays_right utf8 least word text byte (Some change) enough = grind (arith, enough)

pub goes_right_none : (utf8 : Bool) (least : ℤ) (word text : List ℕ) (byte : ℕ) (item : Option ChangeAt) → item ≡ None → is_short_after utf8 least word byte ≡ true
    → goes_after utf8 least word text byte item ≡ true
goes_right_none utf8 least word text byte item is short = ap (goes_after utf8 least word text byte) is ∙ short

pub goes_right_some : (utf8 : Bool) (least : ℤ) (word text : List ℕ) (byte end : ℕ) (item : Option ChangeAt) (change : ChangeAt) (result : Bool) → byte + 1 ≡ end
    → item ≡ Some change → is_short_after utf8 least word byte ≡ true
    → result ≡ (has_equals change.text && is_below (letters_in_hundred utf8 (drop (end - change.pos + change.cut) text) + letters utf8 (after_first is_equals change.text)) least)
    → goes_after utf8 least word text byte item ≡ result
goes_right_some utf8 least word text byte end item change result next is short value =
    ap (goes_after utf8 least word text byte) is
    ∙ ap (λ b. b && has_equals change.text && is_below (letters_in_hundred utf8 (drop (byte + 1 - change.pos + change.cut) text) + letters utf8 (after_first is_equals change.text)) least) short
    ∙ ap (λ (n : ℕ). has_equals change.text && is_below (letters_in_hundred utf8 (drop (n - change.pos + change.cut) text) + letters utf8 (after_first is_equals change.text)) least) next
    ∙ sym value
