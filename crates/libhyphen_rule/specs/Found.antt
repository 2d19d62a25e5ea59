-- The finds in a word, as contracts see them.
use Rattle.std.specs.Prelude.{ℕ, List, [], ◌∷◌, length, map, Option, None, option_map, replicate}
use Rattle.libhyphen_rule.specs.OneLevel.{ChangeAt}
use Rattle.libhyphen_rule.specs.Parts.{Asked, Found, PartMinima, Texts, found_by_next_level, without_left_of_part, without_right_of_part}
use Rattle.libhyphen_rule.specs.Calls.{Answer}
use Rattle.libhyphen_rule.specs.declared.calls.CallAnswer.{CallAnswer}
use Rattle.libhyphen_rule.specs.declared.found.WordFound.{WordFound}
use Rattle.libhyphen_rule.specs.declared.parts.AskedText.{AskedText}
use Rattle.libhyphen_rule.specs.declared.parts.BothLevels.{BothLevels}
use Rattle.libhyphen_rule.specs.declared.parts.PartTexts.{PartTexts}
use Rattle.libhyphen_rule.specs.declared.one_level.PlacedChange.{PlacedChange}

-- A change at a place, with its text.
abbrev pub placed : PlacedChange → ChangeAt
placed change = record { text = change.text.now; pos = change.pos; cut = change.cut }

-- The changes of a word's places.
abbrev pub placed_all : List (Option PlacedChange) → List (Option ChangeAt)
placed_all changes = map (option_map placed) changes

-- The finds in a word.
abbrev pub found_of : WordFound → Found
found_of found = record {
  digits = found.digits.items;
  changes = placed_all found.changes.items;
  made = found.made;
  parts = found.parts;
}

-- A word, or a part of one, that is asked.
abbrev pub asked_in : AskedText → Asked
asked_in asked = record {
  text = asked.text.now;
  behind = asked.behind.now;
  at_left = asked.at_left;
  at_right = asked.at_right;
}

abbrev pub minima_of : BothLevels → PartMinima
minima_of levels = record { left = levels.left; right = levels.right }

abbrev pub texts_of : PartTexts → Texts
texts_of texts = record { text = texts.text.items; behind = texts.behind.items }

-- The changes of this number of places. An empty list has none.
abbrev pub placed_or_none : ℕ → List (Option PlacedChange) → List (Option ChangeAt)
placed_or_none places [] = replicate places None
placed_or_none places (change ∷ changes) = placed_all (change ∷ changes)

-- The answer of a call.
abbrev pub answer_view : CallAnswer → Answer
answer_view answer = record {
  digits = answer.digits.items;
  changes = placed_or_none (length answer.digits.items) answer.changes.items;
  made = answer.made;
}

-- The finds in a part without the places that are too near to its begin, or to its end.
abbrev pub without_left_in : BothLevels → AskedText → WordFound → Found
without_left_in levels asked found =
    without_left_of_part levels.dictionary.now.utf8 (minima_of levels) (asked_in asked) (found_of found)

abbrev pub without_right_in : BothLevels → AskedText → WordFound → Found
without_right_in levels asked found =
    without_right_of_part levels.dictionary.now.utf8 (minima_of levels) (asked_in asked) (found_of found)

-- The finds in a text in which the first level has these finds and no break.
abbrev pub by_next_level_in : BothLevels → AskedText → WordFound → Found
by_next_level_in levels asked first_level =
    found_by_next_level levels.dictionary.now (minima_of levels) first_level.parts (asked_in asked) (placed_all first_level.changes.items)
