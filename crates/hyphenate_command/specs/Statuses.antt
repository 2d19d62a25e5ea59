-- How a run of the program `hyphenate` ends, and the status of each end.
use Rattle.std.specs.Prelude.{◌≡◌, ℕ, List, [], Result, Ok, Err, Option, IfErr, IfSome}
use Rattle.std.specs.Borrow.{Bor}
use Rattle.hyphenation.specs.Engine.{IsScoreError, JudgesDictionary, JudgesEdits, JudgesText, BeforeReading, IfBothKnown, breaks_by, score_by}
use Rattle.named_files.specs.Files.{known_bytes}
use Rattle.hyphenation_hyphenator.specs.Hyphenated.{hyphenated_text}
use Rattle.hyphenation_load.specs.Load.{AppendsTo}
use Rattle.linefill.specs.Run.{fill_output}
use Rattle.hyphenation_grammar.specs.declared.form.Kind.{Kind}
use Rattle.hyphenation.specs.declared.engine.RunError.{RunError}
use Rattle.hyphenation.specs.declared.engine.RunError.TheVariants.{Dictionary, Edit, TextNotUtf8, Input, Output, Memory}
use Rattle.hyphenation_grammar.specs.declared.form.Kind.TheVariants.{Standard}
use Rattle.hyphenate_command.specs.Messages.{message_of}
use Rattle.hyphenate_command.specs.Arguments.{ParsedArgs, ParsedTask, score, text, lines, parsed_args}

-- The status of a run.
-- 0: done. 2: an edit is refused. 3: the dictionary can't be opened, read or accepted, or is of another language.
-- 4: the text is not UTF-8. 5: the text can't be read, or the result can't be written. 6: memory was refused.
abbrev pub status_of : Result (Unit {0}) RunError → ℕ
status_of (Ok done) = 0
status_of (Err (Edit number)) = 2
status_of (Err (Dictionary e)) = 3
status_of (Err TextNotUtf8) = 4
status_of (Err (Input e)) = 5
status_of (Err (Output e)) = 5
status_of (Err Memory) = 6

-- A run for that task may end so, with an input of those bytes, if they are known. A score has no error of an edit or a
-- text. A text judges its edits, in order, and then the input. Lines judge the input.
abbrev pub EndsFor : ParsedTask → Option (List ℕ) → Result (Unit {0}) RunError → Type 0
EndsFor (score kind word) input ended = IfErr ended IsScoreError
EndsFor (text kind mark edits) input ended = JudgesEdits kind edits ended × JudgesText input ended
EndsFor (lines columns) input ended = JudgesEdits Standard [] ended × JudgesText input ended

-- The kind of the dictionary for a task.
abbrev pub kind_of : ParsedTask → Kind
kind_of (score kind word) = kind
kind_of (text kind mark edits) = kind
kind_of (lines columns) = Standard

-- The output of a task for the bytes of its dictionary and of its input, if they are known, was appended. A score has no
-- input.
abbrev pub WritesTask : {W : Type 0} → ParsedTask → Option (List ℕ) → Option (List ℕ) → (W → Option (List ℕ)) → W → W
    → Type 0
WritesTask (score kind word) dictionary input contents old new =
    IfSome dictionary (λ bytes. AppendsTo contents old new (score_by kind word bytes))
WritesTask (text kind mark edits) dictionary input contents old new = IfBothKnown dictionary input
    (λ bytes known. AppendsTo contents old new (hyphenated_text (breaks_by kind bytes edits) mark known))
WritesTask (lines columns) dictionary input contents old new = IfBothKnown dictionary input
    (λ bytes known. AppendsTo contents old new (fill_output columns bytes known))

-- The output that the arguments ask for was appended, by the file at their path.
abbrev pub WritesFor : {W : Type 0} → ParsedArgs → (List ℕ → Option (Option (List ℕ))) → Option (List ℕ)
    → (W → Option (List ℕ)) → W → W → Type 0
WritesFor parsed bytes_of input contents old new =
    WritesTask parsed.task (known_bytes (bytes_of parsed.path)) input contents old new

-- The same for the arguments of a command line, if they have a form.
abbrev pub WritesAnswer : {W : Type 0} → List (Bor (List ℕ)) → (List ℕ → Option (Option (List ℕ))) → Option (List ℕ)
    → (W → Option (List ℕ)) → W → W → Type 0
WritesAnswer args bytes_of input contents old new =
    IfSome (parsed_args args) (λ parsed. WritesFor parsed bytes_of input contents old new)

-- The file at the path of the arguments is judged as a dictionary of the kind and the language that they name.
abbrev pub JudgesFile : ParsedArgs → (List ℕ → Option (Option (List ℕ))) → Result (Unit {0}) RunError → Type 0
JudgesFile parsed bytes_of ended =
    JudgesDictionary (kind_of parsed.task) parsed.code (known_bytes (bytes_of parsed.path)) ended

-- If a run for that task ended before the reading of its text, this holds. A score reads none.
abbrev pub BeforeText : ParsedTask → Result (Unit {0}) RunError → Type 0 → Type 0
BeforeText (score kind word) ended P = P
BeforeText (text kind mark edits) ended P = BeforeReading ended P
BeforeText (lines columns) ended P = BeforeReading ended P

-- The status is that of an end which a run for these arguments may have. Exactly its message was written, where its words are
-- known. If that end comes before the reading of the text, the input is unread.
abbrev pub EndsWith : ParsedArgs → (List ℕ → Option (Option (List ℕ))) → Option (List ℕ) → Type 0 → ℕ → (List ℕ → Type 0)
    → Type 0
EndsWith parsed bytes_of input unread status Told =
    (ended : Result (Unit {0}) RunError) × (status ≡ status_of ended) × IfSome (message_of parsed.path ended) Told
    × JudgesFile parsed bytes_of ended × EndsFor parsed.task input ended × BeforeText parsed.task ended unread
