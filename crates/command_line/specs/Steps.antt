-- The steps of a program, and how it ends by them.
use Rattle.std.specs.Prelude.{ℕ, Result, Ok, Err}
use Rattle.command_line.specs.Endings.{End, Refuses, Fails}
use Rattle.command_line.specs.Failures.{status_of}
use Rattle.command_line.specs.Reading.{as_refused}
use Rattle.command_line.specs.declared.failure.Failure.{Failure}
use Rattle.command_line.specs.declared.failure.Failure.TheVariants as failed
use Rattle.command_line.specs.declared.options.ReadError.{ReadError}
use Rattle.command_line.specs.declared.options.ReadError.TheVariants.{Bad, Memory}

-- The end of a program whose arguments were not read, by the error.
abbrev pub end_unread : ReadError → End
end_unread (Bad bad) = Refuses (as_refused bad)
end_unread Memory = Fails failed.Memory

-- A program ends so if its arguments were not read. Its files, its input and its output, whatever they are, stay as they were.
abbrev pub EndsUnread : {S I O : Type 0} → (End → S → S → I → I → O → O → Type 0) → ReadError → Type 0
EndsUnread {S} {I} {O} Ends error =
    (store : S) (input : I) (output : O) → Ends (end_unread error) store store input input output output

-- A program has one of these ends, and ended so.
abbrev pub EndsIn : (End → Type 0) → (End → Type 0) → Type 0
EndsIn EndsSo IsEnd = (end : End) × EndsSo end × IsEnd end

-- The status of a program after a run, which is done or fails.
abbrev pub status_after : {X : Type 0} → Result X Failure → ℕ
status_after (Ok notes) = 0
status_after (Err failure) = status_of failure
