-- The options that the usage of a program has.
use Rattle.std.specs.Prelude.{ℕ, ◌==◌, Bool, false, not, if◌then◌else◌, List, [], ◌∷◌, codes, length, Option, Some, None, option_and_then, unwrap_or}
use Rattle.std.specs.List.{filter_map}
use Rattle.hyphenation_grammar.specs.Lines.{between_spaces, lines_of, starts_with, strip_prefix}

-- An option of a program: its name with its dashes, and whether it takes a value.
pub record OptionForm : Type 0 where
  pub name : List ℕ
  pub takes_value : Bool

-- A word comes first among pieces between spaces, and not a second space.
abbrev pub begin_with_word : List (List ℕ) → Bool
begin_with_word [] = false
begin_with_word (piece ∷ pieces) = not (length piece == 0)

-- The option of a text that begins with its name, by the pieces between its spaces. It takes a value if a word for that comes
-- next.
abbrev pub option_by : List (List ℕ) → OptionForm
option_by [] = record { name = []; takes_value = false }
option_by (name ∷ pieces) = record { name = name; takes_value = begin_with_word pieces }

-- A text without the short form at its beginning, which has two bytes and then a comma and a space.
abbrev pub without_short : List ℕ → List ℕ
without_short (dash ∷ letter ∷ rest) = unwrap_or (strip_prefix (codes ", ") rest) (dash ∷ letter ∷ rest)
without_short (byte ∷ []) = byte ∷ []
without_short [] = []

-- The option of a text that begins with two hyphens; none of any other text.
abbrev pub option_of : List ℕ → Option OptionForm
option_of text = if starts_with (codes "--") text then Some (option_by (between_spaces text)) else None

-- The option of a line of a usage, if it has one: the line begins with two spaces, and then, maybe after a short form, with two
-- hyphens.
abbrev pub option_in : List ℕ → Option OptionForm
option_in line = option_and_then (λ text. option_of (without_short text)) (strip_prefix (codes "  ") line)

-- The options of a usage, in their order.
unfoldable pub options_in : List ℕ → List OptionForm
options_in usage = filter_map option_in (lines_of usage)
