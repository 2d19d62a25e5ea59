-- Failures over lists of exceptions.
use Rattle.std.proofs.Common.{Global, ℕ, List, [], ◌∷◌, inl, inr}
use Rattle.std.specs.Prelude.{Option, None, Some}
use Rattle.std.specs.declared.string.String.{String}
use Rattle.any_dictionary.specs.declared.AnyDictionary.{AnyDictionary}
use Rattle.command_line.specs.Adjustments.{Adjustments, exception_paths_for, IsFailureOfAdjusted, IsFailureOfAdjusting}
use Rattle.command_line.specs.Adjustments.{IsRefusedFirstList, IsRefusedIfGiven, IsRefusedList}
use Rattle.command_line.specs.Dictionaries.{KnownFiles, HasOwnCause, IsFailureOf, IsOfArgument}
use Rattle.command_line.specs.declared.failure.Failure.{Failure}
use Rattle.command_line.specs.declared.failure.Failure.TheVariants as failed
use Rattle.command_line.specs.declared.failure.ListRefusal.{ListRefusal}

of_list : (P : Failure → Type 0) → ((list : String Global) (refusal : ListRefusal) → P (failed.Exceptions list refusal)) → P failed.Memory
    → (file : Option (Option (List ℕ))) (path : List ℕ) (failure : Failure) → IsRefusedList file path failure → P failure
of_list P refused memory file path (failed.Exceptions list refusal) is = refused list refusal
of_list P refused memory file path failed.Memory is = memory
of_list P refused memory file path (failed.Dictionary named cause) is = absurd is
of_list P refused memory file path (failed.NoDictionary language) is = absurd is
of_list P refused memory file path (failed.Refused input cause) is = absurd is
of_list P refused memory file path (failed.Reading input) is = absurd is
of_list P refused memory file path (failed.Writing output) is = absurd is
of_list P refused memory file path failed.Output is = absurd is

of_first : (P : Failure → Type 0) → ((list : String Global) (refusal : ListRefusal) → P (failed.Exceptions list refusal)) → P failed.Memory
    → (bytes_of : KnownFiles) (paths : List (List ℕ)) (failure : Failure) → IsRefusedFirstList bytes_of paths failure → P failure
of_first P refused memory bytes_of [] failure is = absurd is
of_first P refused memory bytes_of (path ∷ paths) failure (inl is) = of_list P refused memory (bytes_of path) path failure is.1
of_first P refused memory bytes_of (path ∷ paths) failure (inr is) = of_first P refused memory bytes_of paths failure is.1

of_given : (P : Failure → Type 0) → ((list : String Global) (refusal : ListRefusal) → P (failed.Exceptions list refusal)) → P failed.Memory
    → (bytes_of : KnownFiles) (path : Option (List ℕ)) (failure : Failure) → IsRefusedIfGiven bytes_of path failure → P failure
of_given P refused memory bytes_of None failure is = absurd is
of_given P refused memory bytes_of (Some path) failure is = of_list P refused memory (bytes_of path) path failure is

-- A failure of adjustments is the refusal of a list, or memory was refused.
pub of_adjusting : (P : Failure → Type 0) → ((list : String Global) (refusal : ListRefusal) → P (failed.Exceptions list refusal)) → P failed.Memory
    → (bytes_of : KnownFiles) (paths : List (List ℕ)) (adjustments : Adjustments) (old : AnyDictionary) (failure : Failure)
    → IsFailureOfAdjusting bytes_of paths adjustments old failure → P failure
of_adjusting P refused memory bytes_of paths adjustments old failure (inl is) = of_first P refused memory bytes_of paths failure is
of_adjusting P refused memory bytes_of paths adjustments old failure (inr is) = of_given P refused memory bytes_of adjustments.exceptions failure is.2

-- So a failure over the dictionary of an argument is the failure of the argument.
pub adjusting_fails : (bytes_of : KnownFiles) (folders : List (List ℕ)) (argument : List ℕ) (adjustments : Adjustments) (named : AnyDictionary) (failure : Failure)
    → IsOfArgument bytes_of folders argument named
    → IsFailureOfAdjusting bytes_of (exception_paths_for folders argument) adjustments named failure
    → IsFailureOfAdjusted bytes_of folders argument adjustments failure
adjusting_fails bytes_of folders argument adjustments named failure loaded is =
    of_adjusting
    (λ (f : Failure). IsFailureOfAdjusting bytes_of (exception_paths_for folders argument) adjustments named f
    → IsFailureOfAdjusted bytes_of folders argument adjustments f)
    (λ list refusal fails. (named, loaded, fails)) (λ fails. tt)
    bytes_of (exception_paths_for folders argument) adjustments named failure is is

pub own_cause : (bytes_of : KnownFiles) (paths : List (List ℕ)) (adjustments : Adjustments) (old : AnyDictionary) (failure : Failure)
    → IsFailureOfAdjusting bytes_of paths adjustments old failure → HasOwnCause failure
own_cause bytes_of paths adjustments old failure is =
    of_adjusting HasOwnCause (λ list refusal. tt) tt bytes_of paths adjustments old failure is

-- A dictionary that is refused is the failure of its argument, whatever the adjustments are.
pub loading_fails : (bytes_of : KnownFiles) (folders : List (List ℕ)) (argument : List ℕ) (adjustments : Adjustments) (failure : Failure)
    → IsFailureOf bytes_of folders argument failure → IsFailureOfAdjusted bytes_of folders argument adjustments failure
loading_fails bytes_of folders argument adjustments (failed.Dictionary path cause) is = is
loading_fails bytes_of folders argument adjustments (failed.NoDictionary language) is = is
loading_fails bytes_of folders argument adjustments failed.Memory is = is
loading_fails bytes_of folders argument adjustments (failed.Exceptions list refusal) is = absurd is.2
loading_fails bytes_of folders argument adjustments (failed.Refused input cause) is = is
loading_fails bytes_of folders argument adjustments (failed.Reading input) is = is
loading_fails bytes_of folders argument adjustments (failed.Writing output) is = is
loading_fails bytes_of folders argument adjustments failed.Output is = is
