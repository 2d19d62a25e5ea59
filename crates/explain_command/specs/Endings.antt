-- How the program `hyphenate-explain` ends, and the status of each end.
use Rattle.std.specs.Prelude.{◌≡◌, ◌⊎◌, ℕ, Bool, true, false, List, [], ◌∷◌, codes, Option, None, Result, Ok, Err}
use Rattle.std.specs.Borrow.{Bor}
use Rattle.any_dictionary.specs.declared.AnyDictionary.{AnyDictionary}
use Rattle.command_line.specs.About.{help_or_version}
use Rattle.command_line.specs.Adjustments.{IsAdjustedOf, IsFailureOfAdjusted}
use Rattle.command_line.specs.Dictionaries.{KnownFiles}
use Rattle.command_line.specs.Endings.{End, Done, Refuses, Fails, IsRefusal}
use Rattle.command_line.specs.Inputs.{IsFailureOfInput}
use Rattle.command_line.specs.Options.{RefusedArgument}
use Rattle.command_line.specs.Steps.{EndsIn}
use Rattle.command_line.specs.declared.TheConstants.{VERSION}
use Rattle.command_line.specs.declared.failure.Failure.{Failure}
use Rattle.command_line.specs.declared.failure.Failure.TheVariants as failed
use Rattle.hyphenation_breaks.specs.Borrowed.{texts_now}
use Rattle.explain_command.specs.Arguments.{ParsedArgs, parsed_args}
use Rattle.explain_command.specs.Explained.{IsResult, Writes}
use Rattle.explain_command.specs.declared.TheConstants.{NAME, USAGE}

-- The text that the arguments ask for by `--help` or `--version`, if they do.
abbrev pub asked_text : List (Bor (List ℕ)) → Option (List ℕ)
asked_text args = help_or_version NAME.now VERSION.now USAGE.now args

-- ---- failures

-- The words fail so: none is given, and standard input can't be read or is not UTF-8. Else memory was refused.
abbrev pub IsFailureOfWords : KnownFiles → Option (List ℕ) → List (List ℕ) → Failure → Type 0
IsFailureOfWords bytes_of left [] failure = IsFailureOfInput bytes_of left (codes "-") failure
IsFailureOfWords bytes_of left (word ∷ words) failure = failure ≡ failed.Memory

-- The words of arguments fail so, after the dictionary that they name was loaded.
abbrev pub IsFailureAfterLoading : ParsedArgs → KnownFiles → List (Bor (List ℕ)) → Option (List ℕ) → Failure → Type 0
IsFailureAfterLoading parsed bytes_of folders left failure = (dictionary : AnyDictionary)
    × IsAdjustedOf bytes_of (texts_now folders) parsed.dictionary parsed.adjustments dictionary × IsFailureOfWords bytes_of left parsed.words failure

-- The output can't be written, though the text that arguments ask for was made.
abbrev pub IsFailureOfOutput : ParsedArgs → KnownFiles → List (Bor (List ℕ)) → Option (List ℕ) → Failure → Type 0
IsFailureOfOutput parsed bytes_of folders left failure =
    (failure ≡ failed.Output) × ((text : List ℕ) × IsResult parsed bytes_of folders left text)

-- The program fails so for arguments: the dictionary or a list is refused or not found; or after that the words fail; or after that
-- the output can't be written.
abbrev pub IsFailureFor : ParsedArgs → KnownFiles → List (Bor (List ℕ)) → Option (List ℕ) → Failure → Type 0
IsFailureFor parsed bytes_of folders left failure = IsFailureOfAdjusted bytes_of (texts_now folders) parsed.dictionary parsed.adjustments failure
    ⊎ IsFailureAfterLoading parsed bytes_of folders left failure
    ⊎ IsFailureOfOutput parsed bytes_of folders left failure

-- ---- how the program ends

-- How the program ends for its arguments. If one is refused, it says which, or memory was refused. Else it is done, and what
-- they ask for was written, or it fails. After a failure the output is as it was, unless it is the output that failed.
abbrev pub EndsFor : {W : Type 0} → Result ParsedArgs RefusedArgument → KnownFiles → List (Bor (List ℕ)) → Option (List ℕ)
    → (W → Option (List ℕ)) → W → W → End → Type 0
EndsFor (Err refused) bytes_of folders left contents old new end = IsRefusal refused end
EndsFor (Ok parsed) bytes_of folders left contents old new (Done notes) =
    (notes ≡ []) × Writes parsed bytes_of folders left contents old new
EndsFor (Ok parsed) bytes_of folders left contents old new (Fails failure) =
    IsFailureFor parsed bytes_of folders left failure × ((failure ≡ failed.Output) ⊎ (new ≡ old))
EndsFor (Ok parsed) bytes_of folders left contents old new (Refuses refused) = ⊥

-- There are words.
abbrev pub has_words : List (List ℕ) → Bool
has_words [] = false
has_words (word ∷ words) = true

-- Arguments have words, or one of the arguments is refused. So standard input is not asked for.
abbrev pub asks_no_input : Result ParsedArgs RefusedArgument → Bool
asks_no_input (Ok parsed) = has_words parsed.words
asks_no_input (Err refused) = true

-- The program ends so for its arguments, as they are parsed. Where they don't ask for standard input, it is as it was.
abbrev pub EndsParsed : {W : Type 0} → Result ParsedArgs RefusedArgument → KnownFiles → List (Bor (List ℕ)) → Option (List ℕ)
    → Type 0 → (W → Option (List ℕ)) → W → W → End → Type 0
EndsParsed parsed bytes_of folders left unread contents old new end =
    EndsFor parsed bytes_of folders left contents old new end × (asks_no_input parsed ≡ true → unread)

-- If no help was asked for, the program ends so for its arguments.
abbrev pub EndsUnasked : {W : Type 0} → List (Bor (List ℕ)) → KnownFiles → List (Bor (List ℕ)) → Option (List ℕ)
    → Type 0 → (End → Type 0) → (W → Option (List ℕ)) → W → W → Type 0
EndsUnasked args bytes_of folders left unread EndsSo contents old new =
    asked_text args ≡ None → EndsIn EndsSo (EndsParsed (parsed_args args) bytes_of folders left unread contents old new)
