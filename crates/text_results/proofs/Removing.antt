-- The results of a removal, as they are written, and its failures.
use Rattle.std.proofs.Common.{◌≡◌, ℕ, true, List, [], ◌∷◌, Option, Ok, Err, refl, sym, ap, subst, ◌∙◌, inl, inr}
use Rattle.std.specs.Prelude.{IfErr, OnOk, Result, codes}
use Rattle.std.proofs.lemmas.Bool.{cond-true}
use Rattle.command_line.specs.Dictionaries.{KnownFiles}
use Rattle.command_line.specs.Failures.{status_of}
use Rattle.command_line.specs.Inputs.{IsFailureOfInput}
use Rattle.command_line.specs.Options.{ReadArguments, RefusedArgument, after_step, is_given}
use Rattle.command_line.specs.Reading.{IsReadError}
use Rattle.command_line.specs.declared.options.ReadError.{ReadError}
use Rattle.command_line.specs.declared.failure.Failure.{Failure}
use Rattle.command_line.specs.declared.failure.Failure.TheVariants as failed
use Rattle.hyphenation_load.specs.Load.{AppendsTo}
use Rattle.text_results.specs.Files.{WrittenFiles, WritesFiles}
use Rattle.text_results.specs.Removals.{AreRests, ParsedRemoval, removal_of, removal_to}
use Rattle.text_results.specs.Targets.{Target, target_of}
use Rattle.text_results.specs.Texts.{IsFailureAmong, left_after}
use Rattle.text_results.specs.declared.removal.Source.{Source}
use Rattle.text_results.specs.Written.{IsFailureFor, IsFailureOfWriting, WritesResults, files_of, output_of}

-- Names that are refused after the target.
pub removal_refused : {A : Type 0} (source : Source) (read : ReadArguments) (target : Target) (names : List (List ℕ)) (result : Result A ReadError)
    → is_given (codes "--remove") read.given ≡ true → target_of read.given ≡ Ok target → names ≡ read.operands
    → IfErr result (IsReadError (removal_to source target names)) → IfErr result (IsReadError (removal_of source read))
removal_refused {A} source read target names result asked given are refused =
    let wanted : removal_of source read ≡ removal_to source target names =
    cond-true _ _ _ asked ∙ ap (after_step (λ (t : Target). removal_to source t read.operands)) given ∙ ap (λ (ns : List (List ℕ)). removal_to source target ns) (sym are) in
    subst (λ (w : Result (Option ParsedRemoval) RefusedArgument). IfErr result (IsReadError w)) (sym wanted) refused

not_among : (bytes_of : KnownFiles) (left : Option (List ℕ)) (names : List (List ℕ)) (failure : Failure)
    → (failure ≡ failed.Memory → ⊥) → ((l : Option (List ℕ)) (name : List ℕ) → IsFailureOfInput bytes_of l name failure → ⊥)
    → IsFailureAmong bytes_of left names failure → ⊥
not_among bytes_of left [] failure other never among = other among
not_among bytes_of left (name ∷ names) failure other never (inl fails) = never left name fails
not_among bytes_of left (name ∷ names) failure other never (inr (read, among)) =
    not_among bytes_of (left_after left name) names failure other never among

-- Memory may always be refused.
pub memory_among : (bytes_of : KnownFiles) (left : Option (List ℕ)) (names : List (List ℕ)) → IsFailureAmong bytes_of left names failed.Memory
memory_among bytes_of left [] = refl
memory_among bytes_of left (name ∷ names) = inl tt

-- Status 3 is for dictionaries, and so for no text.
pub never_of_texts : (bytes_of : KnownFiles) (left : Option (List ℕ)) (names : List (List ℕ)) (failure : Failure)
    → IsFailureAmong bytes_of left names failure → status_of failure ≡ 3 → ⊥
never_of_texts bytes_of left names (failed.Dictionary path cause) among three = not_among bytes_of left names _ (λ same. absurd cc) (λ l n never. never) among
never_of_texts bytes_of left names (failed.NoDictionary language) among three = not_among bytes_of left names _ (λ same. absurd cc) (λ l n never. never) among
never_of_texts bytes_of left names (failed.Exceptions list refusal) among three = not_among bytes_of left names _ (λ same. absurd cc) (λ l n never. never) among
never_of_texts bytes_of left names (failed.Refused input cause) among three = absurd cc
never_of_texts bytes_of left names (failed.Reading input) among three = absurd cc
never_of_texts bytes_of left names (failed.Writing output) among three = absurd cc
never_of_texts bytes_of left names failed.Output among three = absurd cc
never_of_texts bytes_of left names failed.Memory among three = absurd cc

-- Nor for the writing of results.
pub never_of_writing : (target : Target) (names results : List (List ℕ)) (old new : Option WrittenFiles) (failure : Failure)
    → IsFailureOfWriting target names results old new failure → status_of failure ≡ 3 → ⊥
never_of_writing target names results old new (failed.Dictionary path cause) fails three = fails
never_of_writing target names results old new (failed.NoDictionary language) fails three = fails
never_of_writing target names results old new (failed.Exceptions list refusal) fails three = fails
never_of_writing target names results old new (failed.Refused input cause) fails three = fails
never_of_writing target names results old new (failed.Reading input) fails three = fails
never_of_writing target names results old new (failed.Writing output) fails three = absurd cc
never_of_writing target names results old new failed.Output fails three = absurd cc
never_of_writing target names results old new failed.Memory fails three = absurd cc

-- A failure before anything is written.
pub fails_before : {S : Type 0} (removal : ParsedRemoval) (bytes_of : KnownFiles) (left : Option (List ℕ))
    (written : S → Option WrittenFiles) (store : S) (failure : Failure) → IsFailureAmong bytes_of left removal.inputs failure
    → IsFailureFor (AreRests removal.source bytes_of left removal.inputs) (IsFailureAmong bytes_of left removal.inputs) removal.target removal.inputs written store store failure
fails_before removal bytes_of left written store failure fails = inl (fails, refl)

-- The results of a removal, as they are handed on to be written.
pub writes_given : {W S T E : Type 0} (result : Result T E) (AreSuch : List (List ℕ) → Type 0) (target : Target) (inputs : List (List ℕ))
    (contents : W → Option (List ℕ)) (old new : W) (written : S → Option WrittenFiles) (old_files new_files : S) (names given results : List (List ℕ))
    → names ≡ inputs → given ≡ results → AreSuch results → OnOk result (AppendsTo contents old new (output_of target given))
    → OnOk result (WritesFiles (written old_files) (written new_files) (files_of target names given))
    → OnOk result (WritesResults AreSuch target inputs contents old new written old_files new_files)
writes_given (Ok x) AreSuch target inputs contents old new written old_files new_files names given results n r are output files = (
  given,
  subst AreSuch (sym r) are,
  output,
  subst (λ (ns : List (List ℕ)). WritesFiles (written old_files) (written new_files) (files_of target ns given)) n files,
)
writes_given (Err e) AreSuch target inputs contents old new written old_files new_files names given results n r are output files = tt

pub fails_given : {S T : Type 0} (result : Result T Failure) (AreSuch : List (List ℕ) → Type 0) (FailsBefore : Failure → Type 0) (target : Target) (inputs : List (List ℕ))
    (written : S → Option WrittenFiles) (old_files new_files : S) (names given results : List (List ℕ))
    → names ≡ inputs → given ≡ results → AreSuch results
    → IfErr result (IsFailureOfWriting target names given (written old_files) (written new_files))
    → IfErr result (IsFailureFor AreSuch FailsBefore target inputs written old_files new_files)
fails_given (Ok x) AreSuch FailsBefore target inputs written old_files new_files names given results n r are fails = tt
fails_given (Err failure) AreSuch FailsBefore target inputs written old_files new_files names given results n r are fails =
    inr (
      given,
      subst AreSuch (sym r) are,
      subst (λ (ns : List (List ℕ)). IsFailureOfWriting target ns given (written old_files) (written new_files) failure) n fails,
    )
