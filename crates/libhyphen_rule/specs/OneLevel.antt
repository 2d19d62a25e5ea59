-- The digits and the changes of a word's places by one level.
-- Sources: F. M. Liang, Word Hy-phen-a-tion by Com-put-er (1983); L. Németh, Automatic non-standard hyphenation in
-- OpenOffice.org, TUGboat 27:1 (2006); libhyphen 2.8.8, hyphen.c.
use Rattle.std.specs.Prelude.{ℕ, ℤ, pos, ◌+◌, ◌-◌, ◌%◌, ◌==◌, ◌&&◌, ◌+ℤ◌, int_le, max, nat_abs, nat_le, nat_lt, Bool, false, if◌then◌else◌, List, [], ◌∷◌, ◌++◌, length, map, filter, fold, replicate, Option, None, Some, option_map, option_and_then, is_some, slice_index, slice_set}
use Rattle.std.specs.Ordering.{int_eq}
use Rattle.std.specs.List.{flat_map, last_or, range_with_len}
use Rattle.hyphenation_breaks.specs.Ascii.{digit_zero}
use Rattle.hyphenation_breaks.specs.Dictionary.{TextMap}
use Rattle.libhyphen_files.specs.Levels.{Level}
use Rattle.libhyphen_files.specs.Patterns.{Change, Pattern}
use Rattle.libhyphen_rule.specs.Counting.{Counted, counted_in, framed}

-- ---- The digits.

-- A digit that a pattern that counts gives to a place of the frame, with the pattern's change.
pub record Offer : Type 0 where
  pub place : ℕ
  pub digit : ℕ
  pub first : ℕ
  pub change : Option Change

abbrev pub offer_of : Counted → ℕ → Offer
offer_of counted number = record {
  place = counted.start + number;
  digit = slice_index counted.digits number;
  first = counted.first;
  change = counted.change;
}

-- The digits that a pattern gives, from before its key to after it.
abbrev pub offers_of : Counted → List Offer
offers_of counted = map (offer_of counted) (range_with_len 0 (length counted.digits))

-- The digits that patterns give, in the order of the patterns' ends, and of each pattern in the order of its places.
unfoldable pub offers : List Counted → List Offer
offers counted = flat_map offers_of counted

-- The digit of a place of the frame: the greatest that it is given, or 0.
unfoldable pub digit_at : List Offer → ℕ → ℕ
digit_at given place = fold max digit_zero (map (λ o. o.digit) (filter (λ o. o.place == place) given))

-- ---- The changes.

-- An odd digit allows a break.
abbrev pub is_odd : ℕ → Bool
is_odd digit = digit % 2 == 1

-- The offers that are greater than all before them at their places.
unfoldable pub raisers : List Offer → List Offer → List Offer
raisers seen [] = []
raisers seen (o ∷ os) =
    if nat_lt (digit_at seen o.place) o.digit then o ∷ raisers (seen ++ o ∷ []) os else raisers (seen ++ o ∷ []) os

-- The odd ones of these. The last one at a place decides of its change, also if a later even one is greater.
unfoldable pub deciders : List Offer → List Offer
deciders given = filter (λ o. is_odd o.digit) (raisers [] given)

-- The change of a place: that of the pattern that decides, if it has one.
abbrev pub change_at : List Offer → ℕ → Option Change
change_at given place =
    option_and_then (λ o. o.change) (last_or None (filter (λ o. o.place == place) (deciders given)))

-- A change has its region at a place of the frame.
abbrev pub begins_at : ℕ → ℕ → Change → Bool
begins_at begin first change = int_eq (pos begin) (pos first +ℤ change.start)

-- The region begins there, and the place lies within it, or at one of its ends.
abbrev pub reaches : ℕ → ℕ → ℕ → Change → Bool
reaches begin place first change =
    begins_at begin first change && nat_le begin place && int_le (pos place) (pos begin +ℤ change.cut)

abbrev pub if_change : (Change → Bool) → Option Change → Bool
if_change holds None = false
if_change holds (Some change) = holds change

-- The place of a region, by where it begins: that of the last decider whose own region it is, and in which it lies.
abbrev pub place_of_region : List Offer → ℕ → Option ℕ
place_of_region given begin =
    option_map (λ o. o.place)
    (last_or None (filter (λ o. if_change (reaches begin o.place o.first) o.change) (deciders given)))

-- A pattern that counts has the region that begins there.
abbrev pub has_region : ℕ → Counted → Bool
has_region begin counted = if_change (begins_at begin counted.first) counted.change

abbrev pub cut_or_zero : Option Change → ℤ
cut_or_zero None = pos 0
cut_or_zero (Some change) = change.cut

-- The cut of a region: that of the last pattern that counts and has it, whether its digits win or not.
abbrev pub cut_of_region : List Counted → ℕ → ℤ
cut_of_region counted begin =
    cut_or_zero (option_and_then (λ c. c.change) (last_or None (filter (has_region begin) counted)))

-- A cut below 1 is 1.
abbrev pub at_least_one : ℤ → ℕ
at_least_one cut = if int_le (pos 1) cut then nat_abs cut else 1

-- A change at a place of a word: the text takes the place of `cut` bytes, of which `pos` are before the place.
pub record ChangeAt : Type 0 where
  pub text : List ℕ
  pub pos : ℕ
  pub cut : ℕ

-- A change, with the place of the frame at which it is.
pub record Claim : Type 0 where
  pub place : ℕ
  pub change : ChangeAt

abbrev pub claim_of : List Counted → ℕ → ℕ → Change → Claim
claim_of counted begin place change = record {
  place = place;
  change = record {
    text = change.text;
    pos = place - begin;
    cut = at_least_one (cut_of_region counted begin);
  };
}

abbrev pub claim_at : List Counted → List Offer → ℕ → ℕ → Option Claim
claim_at counted given begin place = option_map (claim_of counted begin place) (change_at given place)

-- The change of a region, if the region has a place whose digit has a change.
abbrev pub claim : List Counted → ℕ → Option Claim
claim counted begin =
    option_and_then (claim_at counted (offers counted) begin) (place_of_region (offers counted) begin)

-- A place of the frame is one of the word, not before its first byte. The end of the word is one, too.
abbrev pub put : Claim → List (Option ChangeAt) → List (Option ChangeAt)
put made changes = if nat_lt 1 made.place then slice_set changes (made.place - 2) (Some made.change) else changes

-- The changes that are made from left to right: the next region that is looked at begins behind the one before.
pub record Made : Type 0 where
  pub next : ℕ
  pub changes : List (Option ChangeAt)

abbrev pub made_with : Made → ℕ → Option Claim → Made
made_with made begin None = made
made_with made begin (Some claim) = record {
  next = begin + claim.change.cut;
  changes = put claim made.changes;
}

abbrev pub made_at : List Counted → Made → ℕ → Made
made_at counted made begin = if nat_lt begin made.next then made else made_with made begin (claim counted begin)

-- The changes of the regions that begin at the first bytes of a word. In the frame the first byte has place 1.
unfoldable pub made_up_to : List Counted → ℕ → ℕ → Made
made_up_to counted bytes begins =
    fold (made_at counted) (record { next = 1; changes = replicate bytes None }) (range_with_len 1 begins)

-- ---- Both, of a word.

-- For each byte of a word, the digit of the place behind it. It is 0 behind the last byte.
abbrev pub digit_behind : List Offer → ℕ → ℕ → ℕ
digit_behind given bytes byte = if nat_lt (byte + 1) bytes then digit_at given (byte + 2) else digit_zero

-- A pattern as it counts, if patterns that change letters may be asked to give no digits.
abbrev pub given_by : Bool → Counted → Counted
given_by plain counted = if plain && is_some counted.change then record counted { digits = [] } else counted

-- The digits of a word's bytes by some patterns, of which those that change letters may be asked to give none.
abbrev pub digits_given_by : Bool → TextMap (List Pattern) → List ℕ → List ℕ
digits_given_by plain patterns word =
    map (digit_behind (offers (map (given_by plain) (counted_in patterns (framed word)))) (length word))
    (range_with_len 0 (length word))

-- The digits of a word's bytes by some patterns.
abbrev pub digits_by : TextMap (List Pattern) → List ℕ → List ℕ
digits_by patterns word =
    map (digit_behind (offers (counted_in patterns (framed word))) (length word)) (range_with_len 0 (length word))

unfoldable pub level_digits : Level → List ℕ → List ℕ
level_digits level word = digits_by level.patterns word

-- For each byte of a word, the change at the place behind it.
abbrev pub changes_by : TextMap (List Pattern) → List ℕ → List (Option ChangeAt)
changes_by patterns word =
    (made_up_to (counted_in patterns (framed word)) (length word) (length word)).changes

unfoldable pub level_changes : Level → List ℕ → List (Option ChangeAt)
level_changes level word =
    changes_by level.patterns word
