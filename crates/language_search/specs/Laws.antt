-- Statements that are true of all tags and folders.
use Rattle.std.specs.Prelude.{◌≡◌, ◌≢◌, ◌⊎◌, ℕ, List, ◌∷◌, ◌++◌, codes, map, All, Contains}
use Rattle.std.specs.Char.{to_ascii_lowercase, to_ascii_uppercase}
use Rattle.hyphenation_breaks.specs.Ascii.{dot, slash}
use Rattle.hyphenation_breaks.specs.Language.{IsCode}
use Rattle.language_search.specs.Paths.{paths_by_tag}
use Rattle.language_search.specs.declared.paths.Sought.{Sought}
use Rattle.language_search.specs.declared.paths.Sought.TheVariants.{Dictionary, Exceptions}

-- A name that leads to no other folder: it is the code of a language, and has no slash and no dot.
pub record IsPlainName (name : List ℕ) : Type 0 where
  pub code : IsCode name
  pub no_slash : All (λ byte. byte ≢ slash) name
  pub no_dot : All (λ byte. byte ≢ dot) name

-- The endings of the files of a sort.
abbrev pub IsEndingOf : Sought → List ℕ → Type 0
IsEndingOf Dictionary ending = (ending ≡ codes ".txt") ⊎ (ending ≡ codes ".extended.txt")
IsEndingOf Exceptions ending = ending ≡ codes ".exceptions"

-- A path is that of a plain name with an ending of the sort, right in one of the folders.
pub record IsRightIn (sought : Sought) (folders : List (List ℕ)) (path : List ℕ) : Type 0 where
  pub folder : List ℕ
  pub name : List ℕ
  pub ending : List ℕ
  pub listed : Contains folders folder
  pub plain : IsPlainName name
  pub ends : IsEndingOf sought ending
  pub path_is : path ≡ folder ++ (slash ∷ (name ++ ending))

-- No path leaves the folders.
abbrev pub PathsStayInFolders : Type 0
PathsStayInFolders = (sought : Sought) (folders : List (List ℕ)) (tag : List ℕ)
    → All (IsRightIn sought folders) (paths_by_tag sought folders tag)

-- A tag has the same paths in capitals and in small letters.
abbrev pub PathsHaveNoCase : Type 0
PathsHaveNoCase = (sought : Sought) (folders : List (List ℕ)) (tag : List ℕ)
    → (paths_by_tag sought folders (map to_ascii_uppercase tag) ≡ paths_by_tag sought folders tag)
    × (paths_by_tag sought folders (map to_ascii_lowercase tag) ≡ paths_by_tag sought folders tag)
