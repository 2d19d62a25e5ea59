-- Targets and texts in code, as the definitions have them.
use Rattle.std.specs.Prelude.{◌≡◌, ℕ, List, map, Option, Result, Ok, Err}
use Rattle.std.specs.Borrow.{Bor}
use Rattle.std.specs.String.{string_bytes}
use Rattle.std.specs.declared.string.String.{String}
use Rattle.hyphenation_breaks.specs.Borrowed.{texts_now}
use Rattle.command_line.specs.Dictionaries.{KnownFiles}
use Rattle.command_line.specs.Options.{RefusedArgument}
use Rattle.command_line.specs.Reading.{as_refused}
use Rattle.command_line.specs.declared.failure.Failure.{Failure}
use Rattle.command_line.specs.declared.options.BadArgument.{BadArgument}
use Rattle.text_results.specs.Files.{WrittenFiles}
use Rattle.text_results.specs.Targets.{Target, ToOutput, ToFile, InPlace}
use Rattle.text_results.specs.Removals.{AreRests, ParsedRemoval}
use Rattle.text_results.specs.Texts.{IsFailureAmong}
use Rattle.text_results.specs.Written.{files_of, IsFailureFor, IsFailureOfWriting, WritesResults}
use Rattle.text_results.specs.declared.removal.Removal.{Removal}
use Rattle.text_results.specs.declared.targets.Target as code
use Rattle.text_results.specs.declared.targets.Target.TheVariants as goes

-- Where results go.
abbrev pub as_target : code.Target → Target
as_target goes.Output = ToOutput
as_target (goes.File path) = ToFile path.now
as_target goes.InPlace = InPlace

-- A target is the wanted one, or the wanted refusal.
abbrev pub IsTarget : Result code.Target BadArgument → Result Target RefusedArgument → Type 0
IsTarget (Ok target) wanted = wanted ≡ Ok (as_target target)
IsTarget (Err bad) wanted = wanted ≡ Err (as_refused bad)

-- The parsed removal.
abbrev pub parsed_removal : Removal → ParsedRemoval
parsed_removal removal = record { source = removal.source; target = as_target removal.target; inputs = texts_now removal.inputs.items }

-- The results of a removal were written.
abbrev pub Removes : {W S : Type 0} → Removal → KnownFiles → Option (List ℕ)
    → (W → Option (List ℕ)) → W → W → (S → Option WrittenFiles) → S → S → Type 0
Removes removal bytes_of left =
    let parsed : ParsedRemoval = parsed_removal removal in
    WritesResults (AreRests parsed.source bytes_of left parsed.inputs) parsed.target parsed.inputs

-- The failure of a removal.
abbrev pub IsFailureOfRemoval : {S : Type 0} → Removal → KnownFiles → Option (List ℕ)
    → (S → Option WrittenFiles) → S → S → Failure → Type 0
IsFailureOfRemoval removal bytes_of left =
    let parsed : ParsedRemoval = parsed_removal removal in
    IsFailureFor (AreRests parsed.source bytes_of left parsed.inputs) (IsFailureAmong bytes_of left parsed.inputs)
    parsed.target parsed.inputs

-- The files that get results where these go to a target.
abbrev pub files_for : {Z : Type 0} → code.Target → List (Bor (List ℕ)) → List (String Z) → WrittenFiles
files_for target inputs results = files_of (as_target target) (texts_now inputs) (map string_bytes results)

-- The failure of writing results to a target.
abbrev pub IsFailureOfTarget : {Z : Type 0} → code.Target → List (Bor (List ℕ)) → List (String Z) → Option WrittenFiles
    → Option WrittenFiles → Failure → Type 0
IsFailureOfTarget target inputs results old new =
    IsFailureOfWriting (as_target target) (texts_now inputs) (map string_bytes results) old new
