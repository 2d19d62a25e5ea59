-- The paths at which the dictionary of a language is looked for, and its list of exceptions, as C reads them.
use Rattle.std.specs.Prelude.{ℕ, ◌==◌, if◌then◌else◌, List, [], ◌∷◌, ◌++◌}
use Rattle.std.specs.List.{flat_map, list_any}
use Rattle.std.specs.Str.{IsUtf8}
use Rattle.language_search.specs.Folders.{folders_of}
use Rattle.language_search.specs.Paths.{paths_by_tag}
use Rattle.language_search.specs.declared.paths.Sought.{Sought}
use Rattle.language_search.specs.declared.paths.Sought.TheVariants.{Dictionary, Exceptions}
use Rattle.c_calls.specs.Statuses.{Finds}

-- A path with a byte 0 behind it. One with a byte 0 in it is left out: it is the path of no file, and C could not read it.
abbrev pub ended_path : List ℕ → List ℕ
ended_path path = if list_any (λ byte. byte == 0) path then [] else path ++ 0 ∷ []

-- Paths, one after the other, each with a byte 0 behind it.
abbrev pub ended_paths : List (List ℕ) → List ℕ
ended_paths paths = flat_map ended_path paths

-- The paths of a tag by the values of HYPHENATION_PATH, XDG_DATA_HOME and HOME.
unfoldable pub paths_by : Sought → List ℕ → List ℕ × List ℕ × List ℕ → List ℕ
paths_by sought tag (path, data_home, home) = ended_paths (paths_by_tag sought (folders_of path data_home home) tag)

-- The tag and the three values are UTF-8.
abbrev pub AreTexts : List ℕ → List ℕ × List ℕ × List ℕ → Type 0
AreTexts tag (path, data_home, home) = IsUtf8 tag × IsUtf8 path × IsUtf8 data_home × IsUtf8 home

-- 0 and 1: the tag and the values are UTF-8, and the buffer has the paths, or is too short. 2: out of memory. 4: one of
-- them is not UTF-8. No other status comes, and from 2 on the buffer and the count are unchanged.
abbrev pub WritesSought : Sought → List ℕ → List ℕ × List ℕ × List ℕ → List ℕ → List ℕ → ℕ → ℕ → ℕ → Type 0
WritesSought sought tag values old new before after status =
    Finds (AreTexts tag values) (paths_by sought tag values) old new before after status

-- The statuses above, for the paths of a dictionary.
abbrev pub WritesPaths : List ℕ → List ℕ × List ℕ × List ℕ → List ℕ → List ℕ → ℕ → ℕ → ℕ → Type 0
WritesPaths tag values old new before after status = WritesSought Dictionary tag values old new before after status

-- The statuses above, for the paths of a list of exceptions.
abbrev pub WritesExceptionPaths : List ℕ → List ℕ × List ℕ × List ℕ → List ℕ → List ℕ → ℕ → ℕ → ℕ → Type 0
WritesExceptionPaths tag values old new before after status = WritesSought Exceptions tag values old new before after status
