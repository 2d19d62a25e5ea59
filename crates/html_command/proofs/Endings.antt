-- The results of a run, as they are written.
use Rattle.std.proofs.Common.{◌≡◌, ℕ, List, Option, Err, sym, subst, inr}
use Rattle.std.specs.Prelude.{IfErr, Result}
use Rattle.command_line.specs.Dictionaries.{KnownFiles}
use Rattle.command_line.specs.declared.failure.Failure.{Failure}
use Rattle.hyphenation_load.specs.Load.{AppendsTo}
use Rattle.text_results.specs.Files.{WrittenFiles, WritesFiles}
use Rattle.html_command.specs.Arguments.{ParsedArgs}
use Rattle.html_command.specs.Notes.{MarkedPage, notes_of, texts_of}
use Rattle.html_command.specs.Private.Runs.{WritesNoted}
use Rattle.html_command.specs.declared.notes.PageNote.{PageNote}
use Rattle.html_command.specs.Written.{AreResults, AreTextsOfResults, IsFailureBefore}
use Rattle.text_results.specs.Written.{IsFailureFor, IsFailureOfWriting, files_of, output_of}

-- The results of a run, as they are handed on to be written.
pub writes_so : {W S : Type 0} (args : ParsedArgs) (bytes_of : KnownFiles) (usual : List (List ℕ)) (left : Option (List ℕ)) (results : List MarkedPage)
    (contents : W → Option (List ℕ)) (old new : W) (written : S → Option WrittenFiles) (old_files new_files : S) (names given : List (List ℕ)) (notes : List PageNote)
    → names ≡ args.inputs → given ≡ texts_of results → AreResults args bytes_of usual left results → notes ≡ notes_of results
    → AppendsTo contents old new (output_of args.options.target given)
    → WritesFiles (written old_files) (written new_files) (files_of args.options.target names given)
    → WritesNoted args bytes_of usual left notes contents old new written old_files new_files
writes_so args bytes_of usual left results contents old new written old_files new_files names given notes n r are noted output files =
    let so = subst (λ (ns : List (List ℕ)). WritesFiles (written old_files) (written new_files) (files_of args.options.target ns given)) n files in
    (results, are, noted, (given, r, output, so))

pub fails_so : {S A : Type 0} (args : ParsedArgs) (bytes_of : KnownFiles) (usual : List (List ℕ)) (left : Option (List ℕ)) (results : List MarkedPage)
    (written : S → Option WrittenFiles) (old_files new_files : S) (names given : List (List ℕ)) (error returned : Failure) (result : Result A Failure)
    → names ≡ args.inputs → given ≡ texts_of results → AreResults args bytes_of usual left results
    → IsFailureOfWriting args.options.target names given (written old_files) (written new_files) error → result ≡ Err returned → returned ≡ error
    → IfErr result (IsFailureFor (AreTextsOfResults args bytes_of usual left) (IsFailureBefore args bytes_of usual left) args.options.target args.inputs written old_files new_files)
fails_so {S} {A} args bytes_of usual left results written old_files new_files names given error returned result n r are fails gives same =
    let P : Failure → Type 0 = IsFailureFor (AreTextsOfResults args bytes_of usual left) (IsFailureBefore args bytes_of usual left) args.options.target args.inputs written old_files new_files in
    let so : P error = inr (
      given,
      (results, are, r),
      subst (λ (ns : List (List ℕ)). IsFailureOfWriting args.options.target ns given (written old_files) (written new_files) error) n fails,
    ) in
    subst (λ (o : Result A Failure). IfErr o P) (sym gives) (subst (λ (e : Failure). P e) (sym same) so)
