-- The texts of several inputs, and the failure of one of them.
use Rattle.std.specs.Prelude.{◌≡◌, ◌⊎◌, ℕ, List, [], ◌∷◌, if◌then◌else◌, Option, None}
use Rattle.command_line.specs.Dictionaries.{KnownFiles}
use Rattle.command_line.specs.Inputs.{is_standard_input, IsTextOf, IsFailureOfInput}
use Rattle.command_line.specs.declared.failure.Failure.{Failure}
use Rattle.command_line.specs.declared.failure.Failure.TheVariants as failed

-- The bytes that standard input has left after a text was read.
abbrev pub left_after : Option (List ℕ) → List ℕ → Option (List ℕ)
left_after left name = if is_standard_input name then None else left

-- One of some texts fails so, and each one before it is read, or memory was refused after all of them.
abbrev pub IsFailureAmong : KnownFiles → Option (List ℕ) → List (List ℕ) → Failure → Type 0
IsFailureAmong bytes_of left [] failure = failure ≡ failed.Memory
IsFailureAmong bytes_of left (name ∷ names) failure =
    IsFailureOfInput bytes_of left name failure
    ⊎ (((text : List ℕ) × IsTextOf bytes_of left name text) × IsFailureAmong bytes_of (left_after left name) names failure)
