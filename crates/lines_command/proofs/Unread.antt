-- The end of a program whose arguments were not read.
use Rattle.std.proofs.Common.{◌≡◌, ℕ, List, Option, Ok, Err, ap, sym, refl, inl, inr}
use Rattle.std.specs.Prelude.{Result}
use Rattle.command_line.specs.Dictionaries.{KnownFiles}
use Rattle.command_line.specs.Endings.{Refuses}
use Rattle.command_line.specs.Options.{RefusedArgument}
use Rattle.command_line.specs.Reading.{as_refused, IsReadError}
use Rattle.command_line.specs.Steps.{end_unread}
use Rattle.command_line.specs.declared.options.ReadError.{ReadError}
use Rattle.command_line.specs.declared.options.ReadError.TheVariants.{Bad, Memory}
use Rattle.lines_command.specs.Arguments.{ParsedArgs}
use Rattle.lines_command.specs.Written.{EndsParsed}

-- An argument is refused, or memory was, and all stays as it was.
pub refused_ends : {W I : Type 0} (parsed : Result ParsedArgs RefusedArgument) (bytes_of : KnownFiles) (folders : List (List ℕ)) (remaining : I → Option (List ℕ))
    (contents : W → Option (List ℕ)) (error : ReadError) → IsReadError parsed error → (input : I) (output : W)
    → EndsParsed parsed bytes_of folders remaining input input contents output output (end_unread error)
refused_ends (Err refused) bytes_of folders remaining contents (Bad bad) is input output =
    let same : refused ≡ as_refused bad = cc in (inl (ap Refuses (sym same)), λ e. refl)
refused_ends (Ok parsed) bytes_of folders remaining contents (Bad bad) is input output = absurd (cc is)
refused_ends (Err refused) bytes_of folders remaining contents Memory is input output = (inr refl, λ e. refl)
refused_ends (Ok parsed) bytes_of folders remaining contents Memory is input output = ((tt, inr refl), λ e. refl)
