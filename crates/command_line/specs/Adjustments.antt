-- The adjustments that a user makes to a dictionary: exceptions of lists, and greater minima.
use Rattle.std.specs.Prelude.{◌≡◌, ◌≢◌, ◌⊎◌, ℕ, List, [], ◌∷◌, codes, if◌then◌else◌, map, option_map, Option, None, Some, IfSome, Result, Ok, ⊤}
use Rattle.std.specs.String.{string_bytes}
use Rattle.any_dictionary.specs.Dictionaries.{raised}
use Rattle.any_dictionary.specs.declared.AnyDictionary.{AnyDictionary}
use Rattle.language_search.specs.Paths.{exception_paths_of}
use Rattle.named_files.specs.Files.{known_bytes}
use Rattle.tex_files.specs.ExceptionLists.{list_fault, with_exceptions}
use Rattle.command_line.specs.Dictionaries.{KnownFiles, is_path, IsFailureOf, IsOfArgument}
use Rattle.command_line.specs.Options.{GivenOption, RefusedArgument, after_step, last_value, number_given}
use Rattle.command_line.specs.declared.adjustments.Adjustments.{Adjustments as AdjustmentsInCode}
use Rattle.command_line.specs.declared.failure.Failure.{Failure}
use Rattle.command_line.specs.declared.failure.Failure.TheVariants as failed
use Rattle.command_line.specs.declared.failure.ListRefusal.TheVariants.{Unread, OnLine}

-- ---- the adjustments of arguments

-- Adjustments: the path of a list of exceptions, if one is given, and the least numbers of characters of a word before its
-- first break and after its last one. They are 0 if they are not given.
pub record Adjustments : Type 0 where
  pub exceptions : Option (List ℕ)
  pub left : ℕ
  pub right : ℕ

-- The adjustments by the options that are given. The last of those of one name counts. The first that is refused decides,
-- in this order.
abbrev pub adjustments_of : List GivenOption → Result Adjustments RefusedArgument
adjustments_of given =
    after_step (λ left. after_step (λ right. Ok (record {
      exceptions = last_value (codes "--exceptions") given;
      left = left;
      right = right;
    }))
    (number_given (codes "--right") 1 255 0 given))
    (number_given (codes "--left") 1 255 0 given)

-- Adjustments in code, in the words of the definitions.
abbrev pub as_adjustments : AdjustmentsInCode → Adjustments
as_adjustments adjustments = record {
  exceptions = option_map (λ path. path.now) adjustments.exceptions;
  left = adjustments.left;
  right = adjustments.right;
}

-- ---- a dictionary with adjustments

-- A dictionary gets the exceptions of the list in a file: the bytes of the file, if they are known, are a list without a
-- fault. It is not known that there is no such file.
abbrev pub GetsList : Option (Option (List ℕ)) → AnyDictionary → AnyDictionary → Type 0
GetsList file old new = (file ≢ Some None) × ((bytes : List ℕ) × IfSome (known_bytes file) (λ known. bytes ≡ known)
    × (list_fault bytes ≡ None) × (new ≡ with_exceptions old bytes))

-- A dictionary gets the exceptions of the first file that is there. It stays as it is only if no file is known to be there.
abbrev pub GetsFirstList : KnownFiles → List (List ℕ) → AnyDictionary → AnyDictionary → Type 0
GetsFirstList bytes_of [] old new = new ≡ old
GetsFirstList bytes_of (path ∷ paths) old new = GetsList (bytes_of path) old new
    ⊎ ((known_bytes (bytes_of path) ≡ None) × GetsFirstList bytes_of paths old new)

-- A dictionary gets the exceptions of the list that is given, if one is.
abbrev pub GetsListIfGiven : KnownFiles → Option (List ℕ) → AnyDictionary → AnyDictionary → Type 0
GetsListIfGiven bytes_of None old new = new ≡ old
GetsListIfGiven bytes_of (Some path) old new = GetsList (bytes_of path) old new

-- A dictionary with adjustments: it gets the exceptions of the first of these files that is there, then those of the list
-- that is given, and then minima that are at least those that are given.
pub record IsAdjusted (bytes_of : KnownFiles) (paths : List (List ℕ)) (adjustments : Adjustments)
    (old new : AnyDictionary) : Type 0 where
  pub usual : AnyDictionary
  pub first : GetsFirstList bytes_of paths old usual
  pub own : AnyDictionary
  pub given : GetsListIfGiven bytes_of adjustments.exceptions usual own
  pub minima : new ≡ raised adjustments.left adjustments.right own

-- The paths at which the list of exceptions of an argument is looked for: none if it is a path, else those of the language.
abbrev pub exception_paths_for : List (List ℕ) → List ℕ → List (List ℕ)
exception_paths_for folders argument = if is_path argument then [] else exception_paths_of folders argument

-- A dictionary is that of an argument with adjustments.
abbrev pub IsAdjustedOf : KnownFiles → List (List ℕ) → List ℕ → Adjustments → AnyDictionary → Type 0
IsAdjustedOf bytes_of folders argument adjustments dictionary = (named : AnyDictionary)
    × IsOfArgument bytes_of folders argument named
    × IsAdjusted bytes_of (exception_paths_for folders argument) adjustments named dictionary

-- ---- failures

-- A failure names the list that is refused, and why: its file can't be read, or the bytes of the file, if they are known,
-- have this fault.
abbrev pub IsRefusedList : Option (Option (List ℕ)) → List ℕ → Failure → Type 0
IsRefusedList file path (failed.Exceptions named Unread) = string_bytes named ≡ path
IsRefusedList file path (failed.Exceptions named (OnLine line cause)) = (string_bytes named ≡ path) × (file ≢ Some None)
    × IfSome (known_bytes file) (λ bytes. list_fault bytes ≡ Some (line, cause))
IsRefusedList file path failed.Memory = ⊤
IsRefusedList file path _ = ⊥

-- The first of some lists that is there is refused so. None before it is known to be there.
abbrev pub IsRefusedFirstList : KnownFiles → List (List ℕ) → Failure → Type 0
IsRefusedFirstList bytes_of [] failure = ⊥
IsRefusedFirstList bytes_of (path ∷ paths) failure =
    ((bytes_of path ≢ Some None) × IsRefusedList (bytes_of path) path failure)
    ⊎ ((known_bytes (bytes_of path) ≡ None) × IsRefusedFirstList bytes_of paths failure)

-- The list that is given is refused so.
abbrev pub IsRefusedIfGiven : KnownFiles → Option (List ℕ) → Failure → Type 0
IsRefusedIfGiven bytes_of None failure = ⊥
IsRefusedIfGiven bytes_of (Some path) failure = IsRefusedList (bytes_of path) path failure

-- The failure of adjustments: the first of these lists that is there is refused, or it is not, and the one that is given is.
abbrev pub IsFailureOfAdjusting : KnownFiles → List (List ℕ) → Adjustments → AnyDictionary → Failure → Type 0
IsFailureOfAdjusting bytes_of paths adjustments old failure = IsRefusedFirstList bytes_of paths failure
    ⊎ ((usual : AnyDictionary) × GetsFirstList bytes_of paths old usual
    × IsRefusedIfGiven bytes_of adjustments.exceptions failure)

-- The failure of an argument with adjustments: that of its dictionary, or of the lists that this dictionary gets.
abbrev pub IsFailureOfAdjusted : KnownFiles → List (List ℕ) → List ℕ → Adjustments → Failure → Type 0
IsFailureOfAdjusted bytes_of folders argument adjustments (failed.Exceptions path cause) = (named : AnyDictionary)
    × IsOfArgument bytes_of folders argument named
    × IsFailureOfAdjusting bytes_of (exception_paths_for folders argument) adjustments named (failed.Exceptions path cause)
IsFailureOfAdjusted bytes_of folders argument adjustments failure = IsFailureOf bytes_of folders argument failure
