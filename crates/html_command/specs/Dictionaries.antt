-- The dictionaries of a run.
use Rattle.std.specs.Prelude.{◌≡◌, ◌≢◌, ◌⊎◌, ℕ, List, [], ◌∷◌, ◌++◌, map, Contains, Option, None, Some, ⊤}
use Rattle.std.specs.List.{All, AllZip}
use Rattle.std.specs.Option.{option_map_or}
use Rattle.std.specs.String.{string_bytes}
use Rattle.any_dictionary.specs.declared.AnyDictionary.{AnyDictionary}
use Rattle.command_line.specs.Adjustments.{Adjustments, IsAdjusted, IsFailureOfAdjusting}
use Rattle.command_line.specs.Dictionaries.{KnownFiles, IsOfFile, IsOfFirst, IsRefusedFile}
use Rattle.command_line.specs.declared.failure.Failure.{Failure}
use Rattle.command_line.specs.declared.failure.Failure.TheVariants as failed
use Rattle.hyphenation_breaks.specs.Language.{IsCode}
use Rattle.hyphenation_html.specs.declared.languages.LanguageDictionary.{LanguageDictionary}
use Rattle.language_search.specs.Paths.{exception_paths_of_code, paths_of_code}
use Rattle.language_search.specs.Tags.{codes_of}
use Rattle.html_pieces.specs.Languages.{languages_of}
use Rattle.html_command.specs.Arguments.{ParsedOptions}

-- The code of the language that a dictionary serves.
abbrev pub code_of : LanguageDictionary → List ℕ
code_of language = string_bytes language.code

-- A list begins with another one.
abbrev pub BeginsWith : List (List ℕ) → List (List ℕ) → Type 0
BeginsWith all front = (rest : List (List ℕ)) × (all ≡ front ++ rest)

-- The languages of a run begin with those that the arguments give. If they give one and no folder, there are no others.
abbrev pub HasCodesOf : ParsedOptions → List (List ℕ) → Type 0
HasCodesOf options codes =
    BeginsWith codes (map (λ one. one.0) options.given)
    × (options.given ≢ [] → options.folder ≡ None → codes ≡ map (λ one. one.0) options.given)

-- A dictionary is that of the file at a path, with adjustments. No list of a language belongs to it.
abbrev pub IsAt : KnownFiles → Adjustments → List ℕ → AnyDictionary → Type 0
IsAt bytes_of adjustments path dictionary = (named : AnyDictionary) × IsOfFile (bytes_of path) named
    × IsAdjusted bytes_of [] adjustments named dictionary

-- The dictionaries are those of the paths that the arguments give, in their order, with adjustments.
abbrev pub AreGiven : KnownFiles → Adjustments → List (List ℕ × List ℕ) → List LanguageDictionary → Type 0
AreGiven bytes_of adjustments given dictionaries =
    AllZip (λ one language. (code_of language ≡ one.0) × IsAt bytes_of adjustments one.1 language.dictionary) given dictionaries

-- The tags of languages for which dictionaries are searched: the one that the arguments name, and those that the page names.
abbrev pub tags_for : ParsedOptions → List ℕ → List (List ℕ)
tags_for options page = options.language ∷ languages_of page

-- A dictionary is the first that folders have for a code, with the first list of exceptions that they have for it, and with
-- adjustments. None is found only if no file of the code is known to be there.
abbrev pub IsFirstOf : KnownFiles → List (List ℕ) → Adjustments → List ℕ → Option AnyDictionary → Type 0
IsFirstOf bytes_of folders adjustments code None = IsOfFirst bytes_of (paths_of_code folders code) None
IsFirstOf bytes_of folders adjustments code (Some dictionary) = (named : AnyDictionary)
    × IsOfFirst bytes_of (paths_of_code folders code) (Some named)
    × IsAdjusted bytes_of (exception_paths_of_code folders code) adjustments named dictionary

-- So is the dictionary of a language for its code.
abbrev pub IsFirstFor : KnownFiles → List (List ℕ) → Adjustments → LanguageDictionary → Type 0
IsFirstFor bytes_of folders adjustments language =
    IsFirstOf bytes_of folders adjustments (code_of language) (Some language.dictionary)

-- The language of a dictionary is a code of this tag, and the dictionary is the first that folders have for it.
abbrev pub IsFoundFor : KnownFiles → List (List ℕ) → Adjustments → List ℕ → LanguageDictionary → Type 0
IsFoundFor bytes_of folders adjustments tag language =
    Contains (codes_of tag) (code_of language) × IsFirstFor bytes_of folders adjustments language

-- It is found so for one of some tags.
abbrev pub IsFoundIn : KnownFiles → List (List ℕ) → Adjustments → List (List ℕ) → LanguageDictionary → Type 0
IsFoundIn bytes_of folders adjustments tags language =
    (tag : List ℕ) × Contains tags tag × IsFoundFor bytes_of folders adjustments tag language

-- The dictionaries begin with those before, and each other one is found in the folders for one of some tags.
abbrev pub AddsFound : KnownFiles → List (List ℕ) → Adjustments → List (List ℕ) → List LanguageDictionary
    → List LanguageDictionary → Type 0
AddsFound bytes_of folders adjustments tags before all =
    (rest : List LanguageDictionary) × (all ≡ before ++ rest) × All (IsFoundIn bytes_of folders adjustments tags) rest

-- A dictionary is there for one of these codes, and for none before it is a file known to be in the folders; or it is known
-- for none at all.
abbrev pub IsServed : KnownFiles → List (List ℕ) → List (List ℕ) → List (List ℕ) → Type 0
IsServed bytes_of folders there [] = ⊤
IsServed bytes_of folders there (code ∷ codes) = Contains there code
    ⊎ (IsOfFirst bytes_of (paths_of_code folders code) None × IsServed bytes_of folders there codes)

-- So it is for the codes of each of some tags.
abbrev pub AreServed : KnownFiles → List (List ℕ) → List (List ℕ) → List (List ℕ) → Type 0
AreServed bytes_of folders there tags = All (λ tag. IsServed bytes_of folders there (codes_of tag)) tags

-- The folders in which dictionaries are searched: that of the arguments, or else the usual ones.
abbrev pub folders_for : ParsedOptions → List (List ℕ) → List (List ℕ)
folders_for options usual = option_map_or (λ folder. folder ∷ []) options.folder usual

-- Dictionaries are searched in folders: the arguments give none, or name a folder.
abbrev pub AreSearched : ParsedOptions → Type 0
AreSearched options = (options.given ≡ []) ⊎ (options.folder ≢ None)

-- The dictionaries of a run: those of the paths that the arguments give, and then those that the folders have for some tags,
-- all with the adjustments of the arguments. If folders are searched, each of the tags is served.
abbrev pub AreDictionariesFor : KnownFiles → ParsedOptions → List (List ℕ) → List (List ℕ) → List LanguageDictionary
    → Type 0
AreDictionariesFor bytes_of options usual tags all =
    (given : List LanguageDictionary) × AreGiven bytes_of options.adjustments options.given given
    × AddsFound bytes_of (folders_for options usual) options.adjustments tags given all
    × (AreSearched options → AreServed bytes_of (folders_for options usual) (map code_of all) tags)

-- A dictionary is looked for at this path: the arguments give it, or it is one that folders have for the code of a
-- language.
abbrev pub IsPathFor : List (List ℕ × List ℕ) → List (List ℕ) → List ℕ → Type 0
IsPathFor given folders path = Contains (map (λ one. one.1) given) path
    ⊎ ((code : List ℕ) × IsCode code × Contains (paths_of_code folders code) path)

-- The adjustments fail so of a dictionary at one of some paths.
abbrev pub IsFailureOfGiven : KnownFiles → Adjustments → List (List ℕ) → Failure → Type 0
IsFailureOfGiven bytes_of adjustments paths failure = (path : List ℕ) × Contains paths path
    × ((named : AnyDictionary) × IsOfFile (bytes_of path) named × IsFailureOfAdjusting bytes_of [] adjustments named failure)

-- The adjustments fail so of a dictionary that folders have for the code of a language, where its own list is one of them.
abbrev pub IsFailureOfFound : KnownFiles → List (List ℕ) → Adjustments → Failure → Type 0
IsFailureOfFound bytes_of folders adjustments failure = (code : List ℕ) × IsCode code
    × ((named : AnyDictionary) × IsOfFirst bytes_of (paths_of_code folders code) (Some named)
    × IsFailureOfAdjusting bytes_of (exception_paths_of_code folders code) adjustments named failure)

-- The dictionaries of a run fail: one is refused that is looked for at one of these paths, or a list of exceptions is that
-- one of them gets, or memory was refused.
abbrev pub IsRefusedFor : KnownFiles → ParsedOptions → List (List ℕ) → Failure → Type 0
IsRefusedFor bytes_of options usual failed.Memory = ⊤
IsRefusedFor bytes_of options usual (failed.Exceptions list refusal) =
    IsFailureOfGiven bytes_of options.adjustments (map (λ one. one.1) options.given) (failed.Exceptions list refusal)
    ⊎ IsFailureOfFound bytes_of (folders_for options usual) options.adjustments (failed.Exceptions list refusal)
IsRefusedFor bytes_of options usual failure = (path : List ℕ)
    × IsPathFor options.given (folders_for options usual) path × IsRefusedFile (bytes_of path) path failure
