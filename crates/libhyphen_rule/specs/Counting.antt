-- The patterns of a level that count in a word: at each end the longest beginning of a pattern, if it is one.
-- Sources: F. M. Liang, Word Hy-phen-a-tion by Com-put-er (1983), for patterns and their values; libhyphen 2.8.8,
-- hyphen.c, for the longest beginning.
use Rattle.std.specs.Prelude.{ℕ, ◌+◌, ◌-◌, nat_eq, Bool, if◌then◌else◌, List, [], ◌∷◌, ◌++◌, length, map, take, Option, option_map, option_and_then, slice_range}
use Rattle.std.specs.List.{list_any, find, filter_map, range_with_len, starts_with}
use Rattle.std.specs.Char.{is_ascii_digit}
use Rattle.std.specs.FinMap as finite
use Rattle.hyphenation_breaks.specs.Ascii.{dot}
use Rattle.hyphenation_breaks.specs.Dictionary.{TextMap}
use Rattle.libhyphen_files.specs.Levels.{pattern_at}
use Rattle.libhyphen_files.specs.Patterns.{Pattern, Change, first_place}

-- A digit of a word is a dot to patterns.
abbrev pub shown : ℕ → ℕ
shown byte = if is_ascii_digit byte then dot else byte

-- The frame of a word: its bytes between two dots. So a dot of a key can match an end of the word.
abbrev pub framed : List ℕ → List ℕ
framed word = dot ∷ map shown word ++ dot ∷ []

-- A text is a beginning of some key, maybe the whole of it.
abbrev pub begins_key : TextMap (List Pattern) → List ℕ → Bool
begins_key patterns text = list_any (λ key. starts_with nat_eq key text) (finite.keys patterns)

-- Where the longest text begins that ends there and is a beginning of a key.
unfoldable pub longest_start : TextMap (List Pattern) → List ℕ → ℕ → Option ℕ
longest_start patterns frame end =
    find (λ start. begins_key patterns (slice_range frame start end)) (range_with_len 0 end)

-- A pattern that counts. It has the place where its key begins in the frame, and `first`, that of the key's first byte that is
-- no leading dot. It has its digits and its change. The digits are from before the key to after it. The start of the change's
-- region is counted from `first`.
pub record Counted : Type 0 where
  pub start : ℕ
  pub first : ℕ
  pub digits : List ℕ
  pub change : Option Change

abbrev pub counted_from : List ℕ → ℕ → ℕ → Pattern → Counted
counted_from frame end start pattern = record {
  start = start;
  first = start + first_place (slice_range frame start end);
  digits = take (end + 1 - start) pattern.digits;
  change = pattern.change;
}

-- The longest beginning, from its start on, counts if it is a key.
abbrev pub counted_if_key : TextMap (List Pattern) → List ℕ → ℕ → ℕ → Option Counted
counted_if_key patterns frame end start =
    option_map (counted_from frame end start) (pattern_at patterns (slice_range frame start end))

-- The pattern that counts at an end, if one does. No shorter one does.
abbrev pub counted_at : TextMap (List Pattern) → List ℕ → ℕ → Option Counted
counted_at patterns frame end = option_and_then (counted_if_key patterns frame end) (longest_start patterns frame end)

-- The patterns that count at the first ends of a frame.
unfoldable pub counted_up_to : TextMap (List Pattern) → List ℕ → ℕ → List Counted
counted_up_to patterns frame ends = filter_map (counted_at patterns frame) (range_with_len 1 ends)

-- The patterns that count in a frame, in the order of their ends.
abbrev pub counted_in : TextMap (List Pattern) → List ℕ → List Counted
counted_in patterns frame = counted_up_to patterns frame (length frame)
