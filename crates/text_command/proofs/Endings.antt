-- The results of a run, as they are written.
use Rattle.std.proofs.Common.{◌≡◌, ℕ, List, Option, Ok, Err, sym, subst, inr}
use Rattle.std.specs.Prelude.{IfErr, OnOk, Result}
use Rattle.command_line.specs.Dictionaries.{KnownFiles}
use Rattle.command_line.specs.declared.failure.Failure.{Failure}
use Rattle.hyphenation_load.specs.Load.{AppendsTo}
use Rattle.text_results.specs.Files.{WrittenFiles, WritesFiles}
use Rattle.text_command.specs.Arguments.{ParsedArgs}
use Rattle.text_command.specs.Written.{AreResults, IsFailureBefore}
use Rattle.text_results.specs.Written.{IsFailureFor, IsFailureOfWriting, WritesResults, files_of, output_of}

-- The results of a run, as they are handed on to be written.
pub writes_given : {W S T E : Type 0} (result : Result T E) (args : ParsedArgs) (bytes_of : KnownFiles) (folders : List (List ℕ)) (left : Option (List ℕ))
    (contents : W → Option (List ℕ)) (old new : W) (written : S → Option WrittenFiles) (old_files new_files : S) (names given results : List (List ℕ))
    → names ≡ args.inputs → given ≡ results → AreResults args bytes_of folders left results
    → OnOk result (AppendsTo contents old new (output_of args.options.target given))
    → OnOk result (WritesFiles (written old_files) (written new_files) (files_of args.options.target names given))
    → OnOk result (WritesResults (AreResults args bytes_of folders left) args.options.target args.inputs contents old new written old_files new_files)
writes_given (Ok x) args bytes_of folders left contents old new written old_files new_files names given results n r are output files = (
  given,
  subst (λ (rs : List (List ℕ)). AreResults args bytes_of folders left rs) (sym r) are,
  output,
  subst (λ (ns : List (List ℕ)). WritesFiles (written old_files) (written new_files) (files_of args.options.target ns given)) n files,
)
writes_given (Err e) args bytes_of folders left contents old new written old_files new_files names given results n r are output files = tt

pub fails_given : {S T : Type 0} (result : Result T Failure) (args : ParsedArgs) (bytes_of : KnownFiles) (folders : List (List ℕ)) (left : Option (List ℕ))
    (written : S → Option WrittenFiles) (old_files new_files : S) (names given results : List (List ℕ))
    → names ≡ args.inputs → given ≡ results → AreResults args bytes_of folders left results
    → IfErr result (IsFailureOfWriting args.options.target names given (written old_files) (written new_files))
    → IfErr result (IsFailureFor (AreResults args bytes_of folders left) (IsFailureBefore args bytes_of folders left) args.options.target args.inputs written old_files new_files)
fails_given (Ok x) args bytes_of folders left written old_files new_files names given results n r are fails = tt
fails_given (Err failure) args bytes_of folders left written old_files new_files names given results n r are fails =
    inr (
      given,
      subst (λ (rs : List (List ℕ)). AreResults args bytes_of folders left rs) (sym r) are,
      subst (λ (ns : List (List ℕ)). IsFailureOfWriting args.options.target ns given (written old_files) (written new_files) failure) n fails,
    )
