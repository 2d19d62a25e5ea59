-- The files and the output that results are written to, and the statuses of a program that writes them.
use Rattle.std.specs.Prelude.{◌≡◌, ◌⊎◌, ℕ, List, [], ◌∷◌, ◌++◌, Option, ⊤}
use Rattle.std.specs.List.{concat, zip}
use Rattle.std.specs.String.{string_bytes}
use Rattle.command_line.specs.Endings.{End, Done, Refuses, Fails, IsRefusal}
use Rattle.command_line.specs.Options.{RefusedArgument}
use Rattle.command_line.specs.declared.failure.Failure.{Failure}
use Rattle.command_line.specs.declared.failure.Failure.TheVariants as failed
use Rattle.hyphenation_load.specs.Load.{AppendsTo}
use Rattle.text_results.specs.Files.{WrittenFiles, WritesFiles}
use Rattle.text_results.specs.Targets.{Target, ToOutput, ToFile, InPlace}

-- The files that get results. The file of the output gets all of them, one after the other, or each of the named files gets its
-- own.
abbrev pub files_of : Target → List (List ℕ) → List (List ℕ) → WrittenFiles
files_of ToOutput names results = []
files_of (ToFile path) names results = (path, concat results) ∷ []
files_of InPlace names results = zip names results

-- The bytes that the output gets: all results, one after the other, or none.
abbrev pub output_of : Target → List (List ℕ) → List ℕ
output_of ToOutput results = concat results
output_of (ToFile path) results = []
output_of InPlace results = []

-- Results that are right were written: these bytes were appended to the output, and these files were replaced.
abbrev pub WritesResults : {W S : Type 0} → (List (List ℕ) → Type 0) → Target → List (List ℕ)
    → (W → Option (List ℕ)) → W → W → (S → Option WrittenFiles) → S → S → Type 0
WritesResults AreSuch target names contents old new written old_files new_files =
    (results : List (List ℕ)) × AreSuch results × AppendsTo contents old new (output_of target results)
    × WritesFiles (written old_files) (written new_files) (files_of target names results)

-- The file at this path, one of some that were to be replaced, was not; those before it were.
abbrev pub FailsAt : Option WrittenFiles → Option WrittenFiles → WrittenFiles → List ℕ → Type 0
FailsAt old new files path = (before after : WrittenFiles) × (bytes : List ℕ)
    × (files ≡ before ++ (path, bytes) ∷ after) × WritesFiles old new before

-- The writing of results fails so: the output can't be written, or one of the files, or memory was refused.
abbrev pub IsFailureOfWriting : Target → List (List ℕ) → List (List ℕ) → Option WrittenFiles → Option WrittenFiles → Failure
    → Type 0
IsFailureOfWriting target names results old new failed.Output = (target ≡ ToOutput) × WritesFiles old new []
IsFailureOfWriting target names results old new (failed.Writing path) =
    FailsAt old new (files_of target names results) (string_bytes path)
IsFailureOfWriting target names results old new failed.Memory = ⊤
IsFailureOfWriting target names results old new _ = ⊥

-- A program fails so: before it writes, and then no file was replaced; or by the writing of results that are right.
abbrev pub IsFailureFor : {S : Type 0} → (List (List ℕ) → Type 0) → (Failure → Type 0) → Target → List (List ℕ)
    → (S → Option WrittenFiles) → S → S → Failure → Type 0
IsFailureFor AreSuch FailsBefore target names written old new failure =
    (FailsBefore failure × (new ≡ old))
    ⊎ ((results : List (List ℕ)) × AreSuch results
    × IsFailureOfWriting target names results (written old) (written new) failure)

-- A program ends for this failure. The output is as it was, unless it is the output that failed.
abbrev pub EndsFailed : {W S : Type 0} → (List (List ℕ) → Type 0) → (Failure → Type 0) → Target → List (List ℕ)
    → W → W → (S → Option WrittenFiles) → S → S → Failure → Type 0
EndsFailed AreSuch FailsBefore target names old new written old_files new_files failure =
    IsFailureFor AreSuch FailsBefore target names written old_files new_files failure
    × ((failure ≡ failed.Output) ⊎ (new ≡ old))

-- A program ends so whose arguments are accepted: it is done, and results that are right were written, or it fails.
abbrev pub Ends : {W S : Type 0} → (List (List ℕ) → Type 0) → (Failure → Type 0) → Target → List (List ℕ)
    → (W → Option (List ℕ)) → W → W → (S → Option WrittenFiles) → S → S → End → Type 0
Ends AreSuch FailsBefore target names contents old new written old_files new_files (Done notes) =
    (notes ≡ []) × WritesResults AreSuch target names contents old new written old_files new_files
Ends AreSuch FailsBefore target names contents old new written old_files new_files (Fails failure) =
    EndsFailed AreSuch FailsBefore target names old new written old_files new_files failure
Ends AreSuch FailsBefore target names contents old new written old_files new_files (Refuses refused) = ⊥

-- A program ends so if it refuses an argument, or is refused memory before it knows. No file was replaced.
abbrev pub EndsRefused : {S : Type 0} → RefusedArgument → S → S → End → Type 0
EndsRefused refused old_files new_files end = IsRefusal refused end × (new_files ≡ old_files)
