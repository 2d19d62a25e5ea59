-- Arguments that are parsed, or refused.
use Rattle.std.proofs.Common.{◌≡◌, ℕ, List, Ok, IfErr, IfOk, ap, sym, subst, ◌∙◌}
use Rattle.std.specs.Prelude.{Result}
use Rattle.command_line.specs.Options.{ReadArguments, RefusedArgument, after_step}
use Rattle.command_line.specs.Reading.{IsReadError}
use Rattle.command_line.specs.declared.options.ReadError.{ReadError}
use Rattle.html_command.specs.Arguments.{ParsedArgs, ParsedOptions, args_as_read, args_of, options_of}

-- Arguments as read, by their options and the names of their pages.
by_options : (read : ReadArguments) (options : ParsedOptions) (names : List (List ℕ)) → options_of read.given ≡ Ok options → names ≡ read.operands
    → args_as_read read ≡ args_of options names
by_options read options names given are =
    ap (after_step (λ (o : ParsedOptions). args_of o read.operands)) given ∙ ap (λ (ns : List (List ℕ)). args_of options ns) (sym are)

-- Operands that are accepted after the options.
pub parsed_as : {A E : Type 0} (parsed : A → ParsedArgs) (read : ReadArguments) (options : ParsedOptions) (names : List (List ℕ)) (result : Result A E)
    → options_of read.given ≡ Ok options → names ≡ read.operands → IfOk result (λ x. args_of options names ≡ Ok (parsed x))
    → IfOk result (λ x. args_as_read read ≡ Ok (parsed x))
parsed_as parsed read options names result given are accepted =
    subst (λ (w : Result ParsedArgs RefusedArgument). IfOk result (λ x. w ≡ Ok (parsed x))) (sym (by_options read options names given are)) accepted

-- Operands that are refused after the options.
pub refused_as : {A : Type 0} (read : ReadArguments) (options : ParsedOptions) (names : List (List ℕ)) (result : Result A ReadError)
    → options_of read.given ≡ Ok options → names ≡ read.operands → IfErr result (IsReadError (args_of options names))
    → IfErr result (IsReadError (args_as_read read))
refused_as read options names result given are refused =
    subst (λ (w : Result ParsedArgs RefusedArgument). IfErr result (IsReadError w)) (sym (by_options read options names given are)) refused
