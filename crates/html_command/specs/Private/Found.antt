-- The steps of finding dictionaries.
use Rattle.std.specs.Prelude.{◌≡◌, ◌<◌, ℕ, List, [], ◌∷◌, ◌++◌, length, map, slice_index_or, Option, Some, None}
use Rattle.std.specs.List.{All, remove}
use Rattle.std.specs.Option.{option_map}
use Rattle.command_line.specs.Adjustments.{Adjustments}
use Rattle.command_line.specs.Dictionaries.{KnownFiles}
use Rattle.hyphenation_html.specs.declared.languages.LanguageDictionary.{LanguageDictionary}
use Rattle.html_command.specs.Arguments.{ParsedOptions}
use Rattle.html_command.specs.Dictionaries.{code_of, AreGiven, IsFirstFor, IsFirstOf, IsFoundFor, folders_for}

-- The codes of dictionaries, with that of one that may be found.
abbrev pub codes_with : List LanguageDictionary → Option LanguageDictionary → List (List ℕ)
codes_with all None = map code_of all
codes_with all (Some found) = map code_of all ++ code_of found ∷ []

-- The dictionaries begin with those before, and each other one is found in the folders for a tag.
abbrev pub AddsFoundFor : KnownFiles → List (List ℕ) → Adjustments → List ℕ → List LanguageDictionary → List LanguageDictionary
    → Type 0
AddsFoundFor bytes_of folders adjustments tag before all =
    (rest : List LanguageDictionary) × (all ≡ before ++ rest) × All (IsFoundFor bytes_of folders adjustments tag) rest

-- One of some dictionaries is taken out, or none is.
abbrev pub Takes : List LanguageDictionary → List LanguageDictionary → Option LanguageDictionary → Type 0
Takes before after None = after ≡ before
Takes before after (Some one) = (place : ℕ) × (place < length before) × (one ≡ slice_index_or before place one)
    × (after ≡ remove before place)

-- A dictionary that may be found is the first that folders have for a code.
abbrev pub IsFirstFound : KnownFiles → List (List ℕ) → Adjustments → List ℕ → Option LanguageDictionary → Type 0
IsFirstFound bytes_of folders adjustments code found =
    IsFirstOf bytes_of folders adjustments code (option_map (λ one. one.dictionary) found)

-- Each of some dictionaries is the first that folders have for its language.
abbrev pub AreFirst : KnownFiles → List (List ℕ) → Adjustments → List LanguageDictionary → Type 0
AreFirst bytes_of folders adjustments dictionaries = All (IsFirstFor bytes_of folders adjustments) dictionaries

-- The dictionaries of a page begin with those that the arguments give. All that come after, and all others, are the first
-- that the folders have.
abbrev pub AreLoaded : KnownFiles → ParsedOptions → List (List ℕ) → List LanguageDictionary → List LanguageDictionary → Type 0
AreLoaded bytes_of options usual all others =
    (given : List LanguageDictionary) × AreGiven bytes_of options.adjustments options.given given
    × ((found : List LanguageDictionary) × (all ≡ given ++ found)
    × AreFirst bytes_of (folders_for options usual) options.adjustments found)
    × AreFirst bytes_of (folders_for options usual) options.adjustments others
