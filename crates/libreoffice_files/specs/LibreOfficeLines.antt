-- The lines of a `.dic` of LibreOffice: settings, texts without breaks, and patterns.
-- Source: libhyphen 2.8.8, hyphen.c and README.hyphen.
use Rattle.std.specs.Prelude.{ℕ, ◌+◌, ◌==◌, ◌&&◌, ◌||◌, nat_lt, Bool, true, if◌then◌else◌, List, [], ◌∷◌, length, take, drop, codes, fold}
use Rattle.std.specs.Prelude.{Option, Some, None, option_map, option_and_then, unwrap_or, is_some, position}
use Rattle.std.specs.List.{slice_split}
use Rattle.std.specs.Option.{option_or}
use Rattle.std.specs.Str.{trim, trim_end, all_ascii_digits}
use Rattle.std.specs.Str.Parse.{without_leading_plus, digits_value}
use Rattle.hyphenation_breaks.specs.Ascii.{line_feed, space, hash, percent}
use Rattle.hyphenation_grammar.specs.Lines.{is_same}
use Rattle.pattern_results.specs.declared.errors.FileCause.{FileCause}
use Rattle.pattern_results.specs.declared.errors.FileCause.TheVariants.{Minimum}
use Rattle.libreoffice_files.specs.declared.lines.LineKind.{LineKind}
use Rattle.libreoffice_files.specs.declared.lines.LineKind.TheVariants.{Ignored, Left, Right, Level, NoHyphen, Other, Pattern}

-- A text, split at the first byte of this kind, which is left out. None if the text has none.
abbrev pub split_at_byte : ℕ → List ℕ → Option (List ℕ × List ℕ)
split_at_byte mark text = option_map (λ at. (take at text, drop (at + 1) text)) (position (λ b. b == mark) text)

-- The number that a text writes in digits, maybe after a plus sign, if it is below a bound.
abbrev pub number_below : ℕ → List ℕ → Option ℕ
number_below bound text =
    if all_ascii_digits (without_leading_plus text) && nat_lt 0 (length (without_leading_plus text))
    && nat_lt (digits_value 10 (without_leading_plus text)) bound
    then Some (digits_value 10 (without_leading_plus text)) else None

-- A line: its number, its kind and its text. The text of a setting is after its name; the text of a pattern is the whole line.
pub record DicLine : Type 0 where
  pub number : ℕ
  pub kind : LineKind
  pub text : List ℕ

-- The kind of a line by its first word.
abbrev pub kind_of_word : List ℕ → LineKind
kind_of_word word =
    if is_same word (codes "LEFTHYPHENMIN") then Left
    else (if is_same word (codes "RIGHTHYPHENMIN") then Right
    else (if is_same word (codes "NOHYPHEN") then NoHyphen
    else (if is_same word (codes "NEXTLEVEL") then Level
    else (if is_same word (codes "COMPOUNDLEFTHYPHENMIN") then Other
    else (if is_same word (codes "COMPOUNDRIGHTHYPHENMIN") then Other else Pattern)))))

-- A line is empty, or a comment, which begins with a percent or a number sign.
abbrev pub is_ignored : List ℕ → Bool
is_ignored [] = true
is_ignored (b ∷ bs) = b == percent || b == hash

-- The first word of a line, up to a space, and the text after that.
abbrev pub word_and_rest : List ℕ → List ℕ × List ℕ
word_and_rest line = unwrap_or (split_at_byte space line) (line, [])

-- The text of a setting is after its name; that of a pattern is the whole line.
abbrev pub text_by_kind : LineKind → List ℕ → List ℕ → List ℕ
text_by_kind Pattern line rest = line
text_by_kind kind line rest = rest

-- A line that is neither empty nor a comment, without white space at its end.
abbrev pub line_by_words : ℕ → List ℕ → List ℕ × List ℕ → DicLine
line_by_words number line words = record {
  number = number;
  kind = kind_of_word words.0;
  text = text_by_kind (kind_of_word words.0) line words.1;
}

-- A line, read.
abbrev pub read_line : ℕ → List ℕ → DicLine
read_line number line =
    if is_ignored line then record { number = number; kind = Ignored; text = [] }
    else line_by_words number line (word_and_rest line)

-- Lines, the first of which has that number, read without white space at their ends.
abbrev pub lines_from : ℕ → List (List ℕ) → List DicLine
lines_from number [] = []
lines_from number (line ∷ lines) = read_line number (trim_end line) ∷ lines_from (number + 1) lines

-- The lines of a text, which are between line feeds.
abbrev pub lines_in : ℕ → List ℕ → List DicLine
lines_in first text = lines_from first (slice_split (λ b. b == line_feed) text)

-- ---- Settings.

-- The settings for all levels: the least numbers of letters before and after a break, and texts: no break is directly before or
-- after them.
pub record FileSettings : Type 0 where
  pub left : Option (List ℕ)
  pub right : Option (List ℕ)
  pub no_hyphen : Option (List ℕ)

-- No setting.
abbrev pub nothing_set : FileSettings
nothing_set = record { left = None; right = None; no_hyphen = None }

-- The setting of one more line. If a setting comes several times, the last one counts.
abbrev pub set_by : LineKind → List ℕ → FileSettings → FileSettings
set_by Left text settings = record settings { left = Some text }
set_by Right text settings = record settings { right = Some text }
set_by NoHyphen text settings = record settings { no_hyphen = Some text }
set_by kind text settings = settings

abbrev pub with_line : FileSettings → DicLine → FileSettings
with_line settings line = set_by line.kind line.text settings

-- The settings of lines.
abbrev pub settings_of : List DicLine → FileSettings
settings_of lines = fold with_line nothing_set lines

-- The number from 0 to 255 that LEFTHYPHENMIN or RIGHTHYPHENMIN has.
abbrev pub minimum_value : List ℕ → Option ℕ
minimum_value text = number_below 256 (trim text)

-- A minimum that is set; 0 sets none.
abbrev pub unless_zero : ℕ → Option ℕ
unless_zero minimum = if minimum == 0 then None else Some minimum

abbrev pub minimum_set : Option (List ℕ) → Option ℕ
minimum_set text = option_and_then unless_zero (option_and_then minimum_value text)

-- The minimum that is given, or else the one that is set, or else 2.
abbrev pub minimum_of : Option ℕ → Option ℕ → ℕ
minimum_of given set = unwrap_or (option_or given set) 2

-- A setting of a minimum without a number from 0 to 255 is faulty.
abbrev pub cause_of_kind : LineKind → List ℕ → Option FileCause
cause_of_kind Left text = if is_some (minimum_value text) then None else Some Minimum
cause_of_kind Right text = if is_some (minimum_value text) then None else Some Minimum
cause_of_kind kind text = None

-- The first faulty line, with the cause.
abbrev pub line_fault : List DicLine → Option (ℕ × FileCause)
line_fault [] = None
line_fault (line ∷ lines) =
    option_or (option_map (λ cause. (line.number, cause)) (cause_of_kind line.kind line.text)) (line_fault lines)
