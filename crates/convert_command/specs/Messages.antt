-- The messages of the program `hyphenate-convert`.
use Rattle.std.specs.Prelude.{◌≡◌, ℕ, List, [], ◌∷◌, ◌++◌, codes}
use Rattle.std.specs.Fmt.{decimal}
use Rattle.std.specs.IoError.{error_kind}
use Rattle.std.specs.List.{flat_map}
use Rattle.std.specs.declared.io.ErrorKind.TheVariants.{OutOfMemory}
use Rattle.pattern_results.specs.Messages.{fault_message, note_message}
use Rattle.pattern_results.specs.declared.errors.ConvertError.TheVariants.{Memory as NoMemory, Fault}
use Rattle.pattern_results.specs.declared.notes.Note.{Note}
use Rattle.convert_command.specs.Arguments.{path_at}
use Rattle.convert_command.specs.declared.Failure.{Failure}
use Rattle.convert_command.specs.declared.Failure.TheVariants.{Reading, Refused, Minima, Writing, Memory}
use Rattle.convert_command.specs.declared.TheConstants.{NO_MEMORY, USAGE}
use Rattle.convert_command.specs.declared.request.BadArgs.{BadArgs}
use Rattle.convert_command.specs.declared.request.BadArgs.TheVariants.{NoForm, Ending, NotAlone, OtherLanguage}

-- A message of a file. It begins with the name of the program.
abbrev pub said_of : List ℕ → List ℕ → List ℕ
said_of path words = codes "hyphenate-convert: " ++ (path ++ words)

-- A message of a line of a file.
abbrev pub said_at : List ℕ → ℕ → List ℕ → List ℕ
said_at path line words = said_of path (codes ":" ++ (decimal line ++ words))

-- The line that says a note: the file and the line that it is first made on, its words, and how often it is made.
abbrev pub note_line : List (List ℕ) → Note → List ℕ
note_line paths note = said_at (path_at paths note.first.file) note.first.line
    (codes ": note: " ++ (note_message note.kind ++ (codes " (" ++ (decimal note.times ++ codes ")\n"))))

-- All notes, each in its line, in their order.
abbrev pub notes_text : List (List ℕ) → List Note → List ℕ
notes_text paths notes = flat_map (note_line paths) notes

-- The message says exactly why files gave no dictionary that was written. No clause has the words of the system for a file
-- that can't be opened or read. If memory was refused for that, the message says so.
abbrev pub TellsFailure : List (List ℕ) → Failure → (List ℕ → Type 0) → Type 0
TellsFailure paths (Reading index e) Told = error_kind e ≡ OutOfMemory → Told NO_MEMORY.now
TellsFailure paths (Refused (Fault file line cause)) Told =
    Told (said_at (path_at paths file) line (codes ": " ++ (fault_message cause ++ codes "\n")))
TellsFailure paths (Refused NoMemory) Told = Told NO_MEMORY.now
TellsFailure paths Minima Told = Told (codes "hyphenate-convert: no file says the minima: give LEFT and RIGHT\n")
TellsFailure paths Writing Told = Told (codes "hyphenate-convert: the result can't be written\n")
TellsFailure paths Memory Told = Told NO_MEMORY.now

-- The files of arguments, which come after four others.
abbrev pub files_in : List (List ℕ) → List (List ℕ)
files_in (kind ∷ code ∷ left ∷ right ∷ files) = files
files_in _ = []

-- The message that names a file of arguments by its number, and says why it is rejected.
abbrev pub rejection_of : List (List ℕ) → ℕ → List ℕ → List ℕ
rejection_of args index why = said_of (path_at (files_in args) index) (codes ": " ++ (why ++ codes "\n"))

-- The message for why arguments are rejected.
abbrev pub rejection_message : List (List ℕ) → BadArgs → List ℕ
rejection_message args NoForm = USAGE.now
rejection_message args (Ending index) =
    rejection_of args index (codes "a file is .dic, .tex, .pat.txt or .hyp.txt, and this is none of them")
rejection_message args (NotAlone index) = rejection_of args index (codes "a .dic is converted alone")
rejection_message args (OtherLanguage index) =
    rejection_of args index (codes "another language than the file before it, by its name")
