-- The dictionary that an argument names: at a path, or of a language that is looked for in folders.
use Rattle.std.specs.Prelude.{◌≡◌, ◌≢◌, ◌⊎◌, ℕ, ◌==◌, ◌||◌, Bool, List, [], ◌∷◌, if◌then◌else◌, Contains, Option, None, Some, IfSome, ⊤}
use Rattle.std.specs.List.{list_any}
use Rattle.std.specs.String.{string_bytes}
use Rattle.hyphenation_breaks.specs.Ascii.{dot, slash}
use Rattle.std.specs.IoError.{error_kind}
use Rattle.std.specs.declared.io.ErrorKind.TheVariants.{NotFound, OutOfMemory}
use Rattle.hyphenation_grammar.specs.declared.Error.TheVariants.{IO, LanguageMismatch, Memory}
use Rattle.hyphenation_load.specs.Load.{IsLoadError}
use Rattle.named_files.specs.Files.{known_bytes}
use Rattle.any_dictionary.specs.Dictionaries.{contents_of, refusal_by_head}
use Rattle.any_dictionary.specs.declared.AnyDictionary.{AnyDictionary}
use Rattle.language_search.specs.Paths.{paths_of}
use Rattle.command_line.specs.declared.failure.Failure.{Failure}
use Rattle.command_line.specs.declared.failure.Failure.TheVariants as failed

-- The knowledge of the files at all paths.
abbrev pub KnownFiles : Type 0
KnownFiles = List ℕ → Option (Option (List ℕ))

-- A dictionary is that of a file: if the bytes of the file are known, they are accepted and give the dictionary. It is
-- not known that there is no such file.
abbrev pub IsOfFile : Option (Option (List ℕ)) → AnyDictionary → Type 0
IsOfFile file dictionary = (file ≢ Some None)
    × IfSome (known_bytes file) (λ bytes. (refusal_by_head bytes ≡ None) × (dictionary ≡ contents_of bytes))

-- A dictionary is that of a file. None is found only if the file is not known to be there.
abbrev pub IsOfFileIfThere : Option (Option (List ℕ)) → Option AnyDictionary → Type 0
IsOfFileIfThere file (Some dictionary) = IsOfFile file dictionary
IsOfFileIfThere file None = known_bytes file ≡ None

-- A dictionary is that of the first file that is there. None is found only if no file is known to be there.
abbrev pub IsOfFirst : KnownFiles → List (List ℕ) → Option AnyDictionary → Type 0
IsOfFirst bytes_of [] found = found ≡ None
IsOfFirst bytes_of (path ∷ paths) found =
    ((dictionary : AnyDictionary) × (found ≡ Some dictionary) × IsOfFile (bytes_of path) dictionary)
    ⊎ ((known_bytes (bytes_of path) ≡ None) × IsOfFirst bytes_of paths found)

-- An argument is a path: it has a slash or a dot. Any other is the tag of a language.
abbrev pub is_path : List ℕ → Bool
is_path argument = list_any (λ byte. byte == slash || byte == dot) argument

-- The paths at which the dictionary of an argument is looked for, in their order.
abbrev pub paths_for : List (List ℕ) → List ℕ → List (List ℕ)
paths_for folders argument = if is_path argument then argument ∷ [] else paths_of folders argument

-- The dictionary of an argument is that of the first of its paths at which there is a file.
abbrev pub IsOfArgument : KnownFiles → List (List ℕ) → List ℕ → AnyDictionary → Type 0
IsOfArgument bytes_of folders argument dictionary = IsOfFirst bytes_of (paths_for folders argument) (Some dictionary)

-- A failure names the file that is refused, and why: the bytes of the file, if they are known, give this error.
abbrev pub IsRefusedFile : Option (Option (List ℕ)) → List ℕ → Failure → Type 0
IsRefusedFile file path (failed.Dictionary named cause) =
    (string_bytes named ≡ path) × IfSome (known_bytes file) (λ bytes. IsLoadError (refusal_by_head bytes) cause)
IsRefusedFile file path failed.Memory = ⊤
IsRefusedFile file path _ = ⊥

-- A failure is that there is no file at a path, or that memory was refused.
abbrev pub IsMissingFile : List ℕ → Failure → Type 0
IsMissingFile path (failed.Dictionary named (IO e)) = (string_bytes named ≡ path) × (error_kind e ≡ NotFound)
IsMissingFile path failed.Memory = ⊤
IsMissingFile path _ = ⊥

-- A refusal of memory is a failure of its own, and no cause for which a dictionary is refused. No language is asked for,
-- so none differs.
abbrev pub HasOwnCause : Failure → Type 0
HasOwnCause (failed.Dictionary path (IO e)) = error_kind e ≢ OutOfMemory
HasOwnCause (failed.Dictionary path (Memory e)) = ⊥
HasOwnCause (failed.Dictionary path (LanguageMismatch expected found)) = ⊥
HasOwnCause _ = ⊤

-- The first of some files that is there is refused so. None before it is known to be there.
abbrev pub IsRefusedFirst : KnownFiles → List (List ℕ) → Failure → Type 0
IsRefusedFirst bytes_of [] failure = failure ≡ failed.Memory
IsRefusedFirst bytes_of (path ∷ paths) failure = ((bytes_of path ≢ Some None) × IsRefusedFile (bytes_of path) path failure)
    ⊎ ((known_bytes (bytes_of path) ≡ None) × IsRefusedFirst bytes_of paths failure)

-- One of some files is refused so.
abbrev pub IsRefusedAmong : KnownFiles → List (List ℕ) → Failure → Type 0
IsRefusedAmong bytes_of paths failed.Memory = ⊤
IsRefusedAmong bytes_of paths failure =
    (path : List ℕ) × Contains paths path × IsRefusedFile (bytes_of path) path failure

-- The failure of an argument: a file at one of its paths is refused, or no file of its language is known to be there. The
-- failure then names the language.
abbrev pub IsFailureOf : KnownFiles → List (List ℕ) → List ℕ → Failure → Type 0
IsFailureOf bytes_of folders argument (failed.NoDictionary language) =
    (string_bytes language ≡ argument) × IsOfFirst bytes_of (paths_for folders argument) None
IsFailureOf bytes_of folders argument failure = IsRefusedAmong bytes_of (paths_for folders argument) failure

-- The failure of an argument, which is no path, at the first of its files that is there: it is refused. A failure that there is
-- no dictionary of the language is another one.
abbrev pub IsFirstFailureOf : KnownFiles → List (List ℕ) → List ℕ → Failure → Type 0
IsFirstFailureOf bytes_of folders argument (failed.NoDictionary language) = ⊤
IsFirstFailureOf bytes_of folders argument failure = IsRefusedFirst bytes_of (paths_for folders argument) failure
