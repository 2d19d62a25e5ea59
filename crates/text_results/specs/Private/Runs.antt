-- The steps of reading texts and of writing results.
use Rattle.std.specs.Prelude.{◌≡◌, ℕ, List, ◌++◌, map, Option, ⊤}
use Rattle.std.specs.List.{zip}
use Rattle.std.specs.String.{string_bytes}
use Rattle.std.specs.declared.string.String.{String}
use Rattle.command_line.specs.Dictionaries.{KnownFiles}
use Rattle.command_line.specs.Inputs.{AreTextsOf}
use Rattle.command_line.specs.declared.failure.Failure.{Failure}
use Rattle.command_line.specs.declared.failure.Failure.TheVariants as failed
use Rattle.text_results.specs.Files.{WrittenFiles, WritesFiles}
use Rattle.text_results.specs.Targets.{ToFile}
use Rattle.text_results.specs.Texts.{IsFailureAmong}
use Rattle.text_results.specs.Written.{IsFailureOfWriting}

-- The file at this path can't be written, or memory was refused.
abbrev pub IsWritingOf : List ℕ → Failure → Type 0
IsWritingOf path (failed.Writing output) = string_bytes output ≡ path
IsWritingOf path failed.Memory = ⊤
IsWritingOf path _ = ⊥

-- The failure of writing results to the file at a path.
abbrev pub IsFailureOfFile : {Z : Type 0} → List ℕ → List (String Z) → Option WrittenFiles → Option WrittenFiles → Failure → Type 0
IsFailureOfFile path results old new failure = (names : List (List ℕ))
    → IsFailureOfWriting (ToFile path) names (map string_bytes results) old new failure

-- Where the texts that are left are read, all are, after those so far. Where one of them fails, that one fails of all.
pub record GoesOn (bytes_of : KnownFiles) (first : Option (List ℕ)) (all : List (List ℕ)) (left : Option (List ℕ)) (names so_far : List (List ℕ)) : Type 0 where
  pub texts : (more : List (List ℕ)) → AreTextsOf bytes_of left names more → AreTextsOf bytes_of first all (so_far ++ more)
  pub fails : (failure : Failure) → IsFailureAmong bytes_of left names failure → IsFailureAmong bytes_of first all failure

-- Some files of these were replaced, and those of the names that are left are the others.
pub record ReplacedSoFar (old now : Option WrittenFiles) (all results names others : List (List ℕ)) : Type 0 where
  pub done : WrittenFiles
  pub files_are : zip all results ≡ done ++ zip names others
  pub written : WritesFiles old now done
