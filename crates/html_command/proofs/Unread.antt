-- The end of a program whose arguments were not read.
use Rattle.std.proofs.Common.{◌≡◌, ℕ, List, [], ◌∷◌, Option, Ok, Err, ap, sym, refl, inl, inr}
use Rattle.std.specs.Prelude.{Result}
use Rattle.command_line.specs.Dictionaries.{KnownFiles}
use Rattle.command_line.specs.Endings.{Refuses}
use Rattle.command_line.specs.Options.{RefusedArgument}
use Rattle.command_line.specs.Reading.{as_refused, IsReadError}
use Rattle.command_line.specs.Steps.{end_unread}
use Rattle.command_line.specs.declared.options.ReadError.{ReadError}
use Rattle.command_line.specs.declared.options.ReadError.TheVariants.{Bad, Memory}
use Rattle.command_line.specs.declared.failure.Failure.TheVariants as failed
use Rattle.text_results.specs.Files.{WrittenFiles}
use Rattle.text_results.specs.Texts.{IsFailureAmong}
use Rattle.html_command.specs.Arguments.{Task, Marks, Removes}
use Rattle.html_command.specs.Written.{EndsParsed}

memory_among : (bytes_of : KnownFiles) (left : Option (List ℕ)) (names : List (List ℕ)) → IsFailureAmong bytes_of left names failed.Memory
memory_among bytes_of left [] = refl
memory_among bytes_of left (name ∷ names) = inl tt

-- An argument is refused, or memory was, and all stays as it was.
pub refused_ends : {W S I : Type 0} (parsed : Result Task RefusedArgument) (bytes_of : KnownFiles) (usual : List (List ℕ)) (remaining : I → Option (List ℕ))
    (contents : W → Option (List ℕ)) (written : S → Option WrittenFiles) (error : ReadError) → IsReadError parsed error → (store : S) (input : I) (output : W)
    → EndsParsed parsed bytes_of usual remaining input input contents output output written store store (end_unread error)
refused_ends (Err refused) bytes_of usual remaining contents written (Bad bad) is store input output =
    let same : refused ≡ as_refused bad = cc in ((inl (ap Refuses (sym same)), refl), λ e. refl)
refused_ends (Ok task) bytes_of usual remaining contents written (Bad bad) is store input output = absurd (cc is)
refused_ends (Err refused) bytes_of usual remaining contents written Memory is store input output = ((inr refl, refl), λ e. refl)
refused_ends (Ok (Removes removal)) bytes_of usual remaining contents written Memory is store input output =
    ((inl (memory_among bytes_of (remaining input) removal.inputs, refl), inr refl), λ e. refl)
refused_ends (Ok (Marks args)) bytes_of usual remaining contents written Memory is store input output = ((inl (tt, refl), inr refl), λ e. refl)
