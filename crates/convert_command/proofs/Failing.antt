-- How files fail.
use Rattle.std.proofs.Common.{ℕ, List, inl, inr}
use Rattle.std.specs.Prelude.{Bool}
use Rattle.command_line.specs.Dictionaries.{KnownFiles}
use Rattle.convert_command.specs.Arguments.{ParsedArgs}
use Rattle.convert_command.specs.Endings.{IsFailureFor}
use Rattle.convert_command.specs.Failures.{IsFailureOfBytes, IsOutside}
use Rattle.convert_command.specs.Written.{AreBytesAt}
use Rattle.convert_command.specs.declared.Failure.{Failure}

pub outside_fails : (parsed : ParsedArgs) (is_dic : Bool) (bytes_of : KnownFiles) (failure : Failure) → IsOutside failure → IsFailureFor parsed is_dic bytes_of failure
outside_fails parsed is_dic bytes_of failure outside = inl outside

pub bytes_fail : (parsed : ParsedArgs) (is_dic : Bool) (bytes_of : KnownFiles) (all : List (List ℕ)) (failure : Failure) → AreBytesAt bytes_of parsed.paths all
    → IsFailureOfBytes is_dic parsed.left parsed.right parsed.paths all failure → IsFailureFor parsed is_dic bytes_of failure
bytes_fail parsed is_dic bytes_of all failure are fails = inr (all, are, fails)
