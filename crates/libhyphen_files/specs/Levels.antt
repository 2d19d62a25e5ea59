-- One level of a `.dic`: its settings and its patterns.
-- Source: libhyphen 2.8.8, hyphen.c and README.compound.
use Rattle.std.specs.Prelude.{◌≡◌, ℕ, ℤ, pos, ◌-◌, ◌==◌, ◌||◌, nat_lt, Bool, if◌then◌else◌, List, [], ◌∷◌, length, drop, take, filter, codes, Option, None, Some, option_and_then, slice_get}
use Rattle.std.specs.List.{onto_first, prefix_len, slice_split}
use Rattle.std.specs.FinMap as finite
use Rattle.hyphenation_breaks.specs.Ascii.{comma, percent, space, tab}
use Rattle.hyphenation_breaks.specs.Dictionary.{TextMap}
use Rattle.hyphenation_dictionary.specs.Maker.{with_pair}
use Rattle.libhyphen_files.specs.Bytes.{before_nul, begins_with}
use Rattle.libhyphen_files.specs.Numbers.{number_byte, signed}
use Rattle.libhyphen_files.specs.Patterns.{Pattern, key_of, pattern_of}
use Rattle.libhyphen_files.specs.declared.minima.Minima.{Minima}

-- A level. No break is directly before or after one of its texts without breaks. Each key has one pattern.
pub record Level : Type 0 where
  pub minima : Minima
  pub no_hyphen : List (List ℕ)
  pub patterns : TextMap (List Pattern)

abbrev pub no_minima : Minima
no_minima = record { left = pos 0; right = pos 0; compound_left = pos 0; compound_right = pos 0 }

abbrev pub empty_level : Level
empty_level = record { minima = no_minima; no_hyphen = []; patterns = finite.empty }

-- The number after the name of a setting.
abbrev pub setting : ℕ → List ℕ → ℤ
setting name line = signed (number_byte (drop name line))

-- ---- Texts without breaks.

abbrev pub is_blank : ℕ → Bool
is_blank b = b == space || b == tab

-- The texts between commas. A comma in the first place parts nothing.
abbrev pub between_commas : List ℕ → List (List ℕ)
between_commas [] = []
between_commas (b ∷ bs) = onto_first b (slice_split (λ c. c == comma) bs)

-- A text without its last byte.
abbrev pub without_last : List ℕ → List ℕ
without_last text = take (length text - 1) text

-- The texts that follow NOHYPHEN, of which the last byte is taken for the line feed. An empty text is none.
abbrev pub texts_without_breaks : List ℕ → List (List ℕ)
texts_without_breaks text =
    filter (λ part. nat_lt 0 (length part)) (between_commas (without_last (drop (prefix_len is_blank text) text)))

-- ---- Lines.

-- The level with one more pattern. The last line with a key counts; the empty key never does.
abbrev pub with_pattern : Bool → Level → List ℕ → Level
with_pattern utf8 level line =
    if length (key_of line) == 0 then level
    else record level { patterns = with_pair level.patterns (key_of line, pattern_of utf8 line ∷ []) }

-- The level with one more line, which has no byte 0. The last line of each setting counts.
abbrev pub with_text : Bool → Level → List ℕ → Level
with_text utf8 level line =
    if begins_with line (codes "LEFTHYPHENMIN")
    then record level { minima = record level.minima { left = setting 13 line } }
    else (if begins_with line (codes "RIGHTHYPHENMIN")
    then record level { minima = record level.minima { right = setting 14 line } }
    else (if begins_with line (codes "COMPOUNDLEFTHYPHENMIN")
    then record level { minima = record level.minima { compound_left = setting 21 line } }
    else (if begins_with line (codes "COMPOUNDRIGHTHYPHENMIN")
    then record level { minima = record level.minima { compound_right = setting 22 line } }
    else (if begins_with line (codes "NOHYPHEN")
    then record level { no_hyphen = texts_without_breaks (drop 8 line) }
    else with_pattern utf8 level line))))

-- The level with one more line of a file. A comment adds nothing, and what follows a byte 0 is not seen.
abbrev pub with_line : Bool → Level → List ℕ → Level
with_line utf8 level line =
    if begins_with line (percent ∷ []) then level else with_text utf8 level (before_nul line)

-- ---- Patterns of a level.

-- The pattern of a key, if it is one.
abbrev pub pattern_at : TextMap (List Pattern) → List ℕ → Option Pattern
pattern_at patterns key = option_and_then (λ found. slice_get found 0) (finite.get patterns key)

-- No pattern has a change.
abbrev pub HasNoChanges : TextMap (List Pattern) → Type 0
HasNoChanges patterns =
    (key : List ℕ) (pattern : Pattern) → pattern_at patterns key ≡ Some pattern → pattern.change ≡ None
