-- The lines of a dictionary text, the numbers in them, and the three head lines.
use Rattle.std.specs.Prelude.{ℕ, ◌+◌, ◌-◌, ◌*◌, ◌^◌, ◌==◌, ◌&&◌, ◌||◌, nat_le, nat_lt, nat_eq, Bool, false, not, if◌then◌else◌, List, [], ◌∷◌, length, fold, take, drop, codes, Option, Some, None, is_some, option_map, option_and_then, slice_index_or}
use Rattle.std.specs.List.{list_all, slice_split}
use Rattle.std.specs.Cmp.Lexicographic.{pointwise}
use Rattle.hyphenation_breaks.specs.Ascii.{digit_nine, digit_zero, line_feed, space}
use Rattle.hyphenation_breaks.specs.Language.{is_code}

-- Pieces without the last one, if that is empty.
abbrev pub without_empty_last : List (List ℕ) → List (List ℕ)
without_empty_last [] = []
without_empty_last (x ∷ []) = if length x == 0 then [] else x ∷ []
without_empty_last (x ∷ y ∷ more) = x ∷ without_empty_last (y ∷ more)

-- The lines of a text: the pieces between line feeds, without an empty last piece.
abbrev pub lines_of : List ℕ → List (List ℕ)
lines_of bytes = without_empty_last (slice_split (λ b. b == line_feed) bytes)

-- The pieces of a text between its spaces.
abbrev pub between_spaces : List ℕ → List (List ℕ)
between_spaces text = slice_split (λ b. b == space) text

-- The pieces between the spaces of a rest; none if there is no rest.
abbrev pub tokens_after : Option (List ℕ) → List (List ℕ)
tokens_after None = []
tokens_after (Some rest) = between_spaces rest

-- Two texts are the same, byte for byte.
abbrev pub is_same : List ℕ → List ℕ → Bool
is_same a b = pointwise nat_eq a b

-- A text without its beginning, if it begins so.
abbrev pub strip_prefix : List ℕ → List ℕ → Option (List ℕ)
strip_prefix start text = if is_same (take (length start) text) start then Some (drop (length start) text) else None

-- A text begins so.
abbrev pub starts_with : List ℕ → List ℕ → Bool
starts_with start text = is_some (strip_prefix start text)

-- An ASCII digit.
abbrev pub is_digit : ℕ → Bool
is_digit b = nat_le digit_zero b && nat_le b digit_nine

-- A number with one digit more at its end.
abbrev pub with_digit : ℕ → ℕ → ℕ
with_digit n b = n * 10 + (b - digit_zero)

-- The number that digits write; 0 if there are none.
abbrev pub number : List ℕ → ℕ
number text = fold with_digit 0 text

-- A text is not empty, and its first byte is no `0` unless it is the only one.
abbrev pub has_no_leading_zero : List ℕ → Bool
has_no_leading_zero [] = false
has_no_leading_zero (b ∷ rest) = not (b == digit_zero) || length rest == 0

-- A number is `0`, or digits without a leading zero, and is below 2^64.
abbrev pub is_number : List ℕ → Bool
is_number text = list_all is_digit text && has_no_leading_zero text && nat_lt (number text) (2 ^ 64)

-- The number that a text spells; none if it is no number.
abbrev pub number_of : List ℕ → Option ℕ
number_of text = if is_number text then Some (number text) else None

-- The code of the language that line 2 names.
abbrev pub language_of : List ℕ → Option (List ℕ)
language_of line =
    option_and_then (λ code. if is_code code then Some code else None) (strip_prefix (codes "language ") line)

-- A text is a number from 0 to 255.
abbrev pub is_number_to_255 : List ℕ → Bool
is_number_to_255 text = is_number text && nat_le (number text) 255

-- The number from 0 to 255 that a text spells; none if it spells no number of these.
abbrev pub number_to_255 : List ℕ → Option ℕ
number_to_255 text = if is_number_to_255 text then Some (number text) else None

-- Two of these numbers, if there are exactly two parts.
abbrev pub two_minima : List (List ℕ) → Option (ℕ × ℕ)
two_minima parts =
    if length parts == 2
    then option_and_then (λ left. option_map (λ right. (left, right)) (number_to_255 (slice_index_or parts 1 [])))
    (number_to_255 (slice_index_or parts 0 []))
    else None

-- The two minima of line 3.
abbrev pub minima_of : List ℕ → Option (ℕ × ℕ)
minima_of line =
    option_and_then (λ rest. two_minima (between_spaces rest)) (strip_prefix (codes "minima ") line)
