-- The paths at which the dictionary of a language is looked for, and its list of exceptions, in their order.
use Rattle.std.specs.Prelude.{ℕ, List, [], ◌∷◌, ◌++◌, codes}
use Rattle.std.specs.List.{flat_map}
use Rattle.hyphenation_breaks.specs.Ascii.{slash}
use Rattle.language_search.specs.Names.{names_of}
use Rattle.language_search.specs.Tags.{codes_of}
use Rattle.language_search.specs.declared.paths.Sought.{Sought}
use Rattle.language_search.specs.declared.paths.Sought.TheVariants.{Dictionary, Exceptions}

-- The paths of a name in a folder: those of a standard dictionary, and then of an extended one; or that of a list.
abbrev pub paths_in : Sought → List ℕ → List ℕ → List (List ℕ)
paths_in Dictionary name folder =
    (folder ++ (slash ∷ (name ++ codes ".txt"))) ∷ (folder ++ (slash ∷ (name ++ codes ".extended.txt"))) ∷ []
paths_in Exceptions name folder = (folder ++ (slash ∷ (name ++ codes ".exceptions"))) ∷ []

-- The paths of a name: those in each folder, in the order of the folders.
abbrev pub paths_of_name : Sought → List (List ℕ) → List ℕ → List (List ℕ)
paths_of_name sought folders name = flat_map (paths_in sought name) folders

-- The paths of a code: those of each of its names.
abbrev pub paths_by_code : Sought → List (List ℕ) → List ℕ → List (List ℕ)
paths_by_code sought folders code = flat_map (paths_of_name sought folders) (names_of code)

-- The paths of a tag: those of each of its codes.
abbrev pub paths_by_tag : Sought → List (List ℕ) → List ℕ → List (List ℕ)
paths_by_tag sought folders tag = flat_map (paths_by_code sought folders) (codes_of tag)

-- The paths of the dictionary of a code.
abbrev pub paths_of_code : List (List ℕ) → List ℕ → List (List ℕ)
paths_of_code folders code = paths_by_code Dictionary folders code

-- The paths of the dictionary of a tag.
abbrev pub paths_of : List (List ℕ) → List ℕ → List (List ℕ)
paths_of folders tag = paths_by_tag Dictionary folders tag

-- The paths of the list of exceptions of a code.
abbrev pub exception_paths_of_code : List (List ℕ) → List ℕ → List (List ℕ)
exception_paths_of_code folders code = paths_by_code Exceptions folders code

-- The paths of the list of exceptions of a tag.
abbrev pub exception_paths_of : List (List ℕ) → List ℕ → List (List ℕ)
exception_paths_of folders tag = paths_by_tag Exceptions folders tag
