-- The changes of a word's places, as C reads them.
use Rattle.std.specs.Prelude.{ℕ, List, [], ◌∷◌, ◌++◌, length, Option, None, Some}
use Rattle.std.specs.List.{enumerate_from, flat_map}
use Rattle.libhyphen_rule.specs.OneLevel.{ChangeAt}
use Rattle.level_calls.specs.declared.changes.LevelChange.{LevelChange}

-- The change of the place behind a character, and how long its text is.
abbrev pub as_change : ℕ → ChangeAt → LevelChange
as_change character change = record {
  character = character;
  pos = change.pos;
  cut = change.cut;
  length = length change.text;
}

-- The change of a place, if it has one.
abbrev pub change_listed : ℕ × Option ChangeAt → List LevelChange
change_listed (character, None) = []
change_listed (character, Some change) = as_change character change ∷ []

-- The changes that there are, each with the number of its character, from 0 on.
unfoldable pub listed_changes : List (Option ChangeAt) → List LevelChange
listed_changes changes = flat_map change_listed (enumerate_from 0 changes)

-- The text of a change with a byte 0 behind it, if there is one.
abbrev pub text_listed : Option ChangeAt → List ℕ
text_listed None = []
text_listed (Some change) = change.text ++ 0 ∷ []

-- The texts of the changes, one after the other.
unfoldable pub listed_texts : List (Option ChangeAt) → List ℕ
listed_texts changes = flat_map text_listed changes
