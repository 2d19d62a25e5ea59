-- How the program `hyphenate-convert` ends, with its messages.
use Rattle.std.specs.Prelude.{◌≡◌, ◌≢◌, ◌⊎◌, ℕ, Bool, List, None, Err}
use Rattle.std.specs.Borrow.{Bor}
use Rattle.std.specs.IoError.{error_kind}
use Rattle.std.specs.declared.io.ErrorKind.TheVariants.{OutOfMemory}
use Rattle.command_line.specs.Dictionaries.{KnownFiles}
use Rattle.hyphenation_breaks.specs.Borrowed.{texts_now}
use Rattle.pattern_results.specs.declared.errors.ConvertError.TheVariants.{Memory as NoMemory, Fault}
use Rattle.pattern_results.specs.declared.notes.Note.{Note}
use Rattle.convert_command.specs.Arguments.{BeginAsUsage, ParsedArgs, ParsesAs, asked_text, is_dic_alone}
use Rattle.convert_command.specs.Failures.{IsFailureOfBytes, IsOutside}
use Rattle.convert_command.specs.Messages.{TellsFailure, files_in, notes_text, rejection_message}
use Rattle.convert_command.specs.Rejections.{input_of}
use Rattle.convert_command.specs.Written.{AreBytesAt, AreNotesBy}
use Rattle.convert_command.specs.declared.Failure.{Failure}
use Rattle.convert_command.specs.declared.Failure.TheVariants.{Reading, Refused, Minima, Writing, Memory}
use Rattle.convert_command.specs.declared.request.BadArgs.{BadArgs}
use Rattle.convert_command.specs.declared.request.BadArgs.TheVariants.{NoForm}

-- The status of a conversion that failed so.
abbrev pub IsStatusOf : Failure → ℕ → Type 0
IsStatusOf (Reading index e) status =
    (error_kind e ≡ OutOfMemory → status ≡ 6) × (error_kind e ≢ OutOfMemory → status ≡ 3)
IsStatusOf (Refused (Fault file line cause)) status = status ≡ 3
IsStatusOf (Refused NoMemory) status = status ≡ 6
IsStatusOf Minima status = status ≡ 2
IsStatusOf Writing status = status ≡ 5
IsStatusOf Memory status = status ≡ 6

-- Arguments are rejected so: they match no form of the usage, since they don't begin as it says. Or they do, and their files
-- are rejected so. The usage wants one file at least.
abbrev pub IsRejection : List (Bor (List ℕ)) → BadArgs → Type 0
IsRejection args bad = ((bad ≡ NoForm) × (BeginAsUsage args → ⊥))
    ⊎ (BeginAsUsage args × (input_of (files_in (texts_now args)) ≡ Err bad))

-- Parsed arguments fail so: by the bytes of their files, which are one .dic or not, or outside of them.
abbrev pub IsFailureFor : ParsedArgs → Bool → KnownFiles → Failure → Type 0
IsFailureFor parsed is_dic bytes_of failure = IsOutside failure
    ⊎ ((all : List (List ℕ)) × AreBytesAt bytes_of parsed.paths all
    × IsFailureOfBytes is_dic parsed.left parsed.right parsed.paths all failure)

-- The notes are those on the files of parsed arguments, by the bytes of these files.
abbrev pub AreNotesFor : ParsedArgs → Bool → KnownFiles → List Note → Type 0
AreNotesFor parsed is_dic bytes_of notes = (all : List (List ℕ)) × AreBytesAt bytes_of parsed.paths all
    × AreNotesBy parsed.kind is_dic parsed.left parsed.right parsed.paths all notes

-- The program rejects its arguments, with status 2, and tells exactly why.
abbrev pub EndsRejected : List (Bor (List ℕ)) → ℕ → (List ℕ → Type 0) → Type 0
EndsRejected args status Told = (bad : BadArgs) × IsRejection args bad × (status ≡ 2)
    × Told (rejection_message (texts_now args) bad)

-- The program is done, with status 0, and tells exactly the notes on its files, each in its line.
abbrev pub EndsDone : List (Bor (List ℕ)) → KnownFiles → ℕ → (List ℕ → Type 0) → Type 0
EndsDone args bytes_of status Told = (parsed : ParsedArgs) × ParsesAs args parsed × (status ≡ 0)
    × ((notes : List Note) × AreNotesFor parsed (is_dic_alone parsed.paths) bytes_of notes
    × Told (notes_text parsed.paths notes))

-- The program fails, with the status of the failure, and tells exactly which it is.
abbrev pub EndsFailed : List (Bor (List ℕ)) → KnownFiles → ℕ → (List ℕ → Type 0) → Type 0
EndsFailed args bytes_of status Told = (parsed : ParsedArgs) × ParsesAs args parsed
    × ((failure : Failure) × IsFailureFor parsed (is_dic_alone parsed.paths) bytes_of failure × IsStatusOf failure status
    × TellsFailure parsed.paths failure Told)

-- If no help was asked for, the program ends so for its arguments.
abbrev pub EndsUnlessAsked : List (Bor (List ℕ)) → KnownFiles → ℕ → (List ℕ → Type 0) → Type 0
EndsUnlessAsked args bytes_of status Told = asked_text args ≡ None
    → EndsRejected args status Told ⊎ EndsDone args bytes_of status Told ⊎ EndsFailed args bytes_of status Told
