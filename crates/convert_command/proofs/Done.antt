-- The end of a program that is done, or failed.
use Rattle.std.proofs.Common.{◌≡◌, ℕ, List, inl, inr, subst}
use Rattle.std.specs.Borrow.{Bor}
use Rattle.std.specs.Prelude.{Bool}
use Rattle.command_line.specs.Dictionaries.{KnownFiles}
use Rattle.pattern_results.specs.declared.notes.Note.{Note}
use Rattle.convert_command.specs.Arguments.{ParsedArgs, ParsesAs, is_dic_alone}
use Rattle.convert_command.specs.Endings.{AreNotesFor, EndsUnlessAsked, IsFailureFor, IsStatusOf}
use Rattle.convert_command.specs.Messages.{TellsFailure, notes_text}
use Rattle.convert_command.specs.declared.Failure.{Failure}

-- The program is done where it tells the notes on its files.
pub done_ends : (args : List (Bor (List ℕ))) (parsed : ParsedArgs) (is_one_dic : Bool) (bytes_of : KnownFiles) (status : ℕ) (Told : List ℕ → Type 0) (notes : List Note)
    → ParsesAs args parsed → is_one_dic ≡ is_dic_alone parsed.paths → status ≡ 0 → AreNotesFor parsed is_one_dic bytes_of notes
    → Told (notes_text parsed.paths notes) → EndsUnlessAsked args bytes_of status Told
done_ends args parsed is_one_dic bytes_of status Told notes parses same done noted told =
    λ asked. inr (inl (parsed, parses, done, (notes, subst (λ (is : Bool). AreNotesFor parsed is bytes_of notes) same noted, told)))

-- The program failed where it tells why.
pub failed_ends : (args : List (Bor (List ℕ))) (parsed : ParsedArgs) (is_one_dic : Bool) (bytes_of : KnownFiles) (status : ℕ) (Told : List ℕ → Type 0) (failure : Failure)
    → ParsesAs args parsed → is_one_dic ≡ is_dic_alone parsed.paths → IsFailureFor parsed is_one_dic bytes_of failure → IsStatusOf failure status
    → TellsFailure parsed.paths failure Told → EndsUnlessAsked args bytes_of status Told
failed_ends args parsed is_one_dic bytes_of status Told failure parses same fails ended told =
    λ asked. inr (inr (parsed, parses, (failure, subst (λ (is : Bool). IsFailureFor parsed is bytes_of failure) same fails, ended, told)))
