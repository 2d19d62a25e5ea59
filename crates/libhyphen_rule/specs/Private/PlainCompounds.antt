-- Texts without changes, with their parts.
use Rattle.std.specs.Prelude.{◌≡◌, ℕ, ℤ, false, List, length, replicate, None}
use Rattle.libhyphen_files.specs.Files.{Rules}
use Rattle.libhyphen_rule.specs.Found.{asked_in, minima_of}
use Rattle.libhyphen_rule.specs.Parts.{Asked, Found, asked_of, found_by_next_level, part_text, without_left_of_part}
use Rattle.libhyphen_rule.specs.Parts.{without_right_of_part, word_found}
use Rattle.libhyphen_rule.specs.Private.PlainWords.{FindsPlain}
use Rattle.libhyphen_rule.specs.declared.parts.AskedText.{AskedText}
use Rattle.libhyphen_rule.specs.declared.parts.BothLevels.{BothLevels}

-- These digits are found, and no change.
abbrev pub plain_found : List ℕ → ℕ → Found
plain_found digits parts = record {
  digits = digits;
  changes = replicate (length digits) None;
  made = false;
  parts = parts;
}

-- A part as it is asked: some bytes of the text, with nothing behind them.
abbrev pub plain_part_of : Asked → ℕ → ℕ → Asked
plain_part_of whole begin end = asked_of whole begin end (part_text whole.text begin end None)

-- The new digits are the old ones without the places that are too near to the begin of a part, or to its end.
abbrev pub LeavesLeft : BothLevels → AskedText → List ℕ → List ℕ → Type 0
LeavesLeft levels asked old new =
    (parts : ℕ) → plain_found new parts
    ≡ without_left_of_part levels.dictionary.now.utf8 (minima_of levels) (asked_in asked) (plain_found old parts)

abbrev pub LeavesRight : BothLevels → AskedText → List ℕ → List ℕ → Type 0
LeavesRight levels asked old new =
    (parts : ℕ) → plain_found new parts
    ≡ without_right_of_part levels.dictionary.now.utf8 (minima_of levels) (asked_in asked) (plain_found old parts)

-- The digits of a part in which the first level finds no break and no change.
abbrev pub FindsByNextLevel : BothLevels → AskedText → List ℕ → Type 0
FindsByNextLevel levels asked digits =
    (parts : ℕ) → plain_found digits parts
    ≡ found_by_next_level levels.dictionary.now (minima_of levels) parts (asked_in asked) (replicate (length asked.text.now) None)

-- The digits of a word, in which no change is made, before the minima of the whole word.
abbrev pub IsPlainWord : Rules → ℤ → ℤ → List ℕ → List ℕ → List ℕ → Type 0
IsPlainWord rules left right word behind digits =
    FindsPlain (word_found rules (record { left = left; right = right }) word behind) digits
