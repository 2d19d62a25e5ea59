-- The output of whole runs, and the order in which they fail.
use Rattle.std.specs.Prelude.{◌≡◌, ◌≢◌, ℕ, List, [], ◌∷◌, ◌++◌, map, decimal, IsUtf8, None, Result, Ok, Err, OnOk, IfOk, IfSome, Option, Some, ⊤}
use Rattle.std.specs.Borrow.{Bor}
use Rattle.std.specs.List.{join_with_byte}
use Rattle.any_dictionary.specs.Dictionaries as any
use Rattle.any_dictionary.specs.Dictionaries.{contents_as}
use Rattle.hyphenation_breaks.specs.Borrowed.{texts_now}
use Rattle.hyphenation_breaks.specs.Break.{Break, plain_break}
use Rattle.hyphenation_reader.specs.Edits.{after_edits, first_refused}
use Rattle.hyphenation_grammar.specs.Reading.{place_as_listing, break_as_listing, standard_contents, extended_contents}
use Rattle.hyphenation_grammar.specs.declared.form.Kind.{Kind}
use Rattle.hyphenation_grammar.specs.declared.form.Kind.TheVariants.{Standard, Extended}
use Rattle.hyphenation_grammar.specs.declared.Error.{Error}
use Rattle.hyphenation_grammar.specs.declared.Error.TheVariants.{Deserialization, IO, LanguageMismatch, Memory as NoMemory}
use Rattle.hyphenation.specs.declared.engine.Marking.{Marking}
use Rattle.hyphenation.specs.declared.engine.RunError.{RunError}
use Rattle.hyphenation.specs.declared.engine.RunError.TheVariants.{Dictionary, Edit, TextNotUtf8, Input, Output, Memory}
use Rattle.std.specs.IoError.{error_kind}
use Rattle.std.specs.declared.io.ErrorKind.TheVariants.{OutOfMemory}
use Rattle.hyphenation_hyphenator.specs.Fitting.{fitted_breaks_of}
use Rattle.hyphenation_hyphenator.specs.Hyphenated.{hyphenated_text}
use Rattle.hyphenation_hyphenator.specs.Opportunities.{no_change, own_break, rules_of, all_breaks_of}
use Rattle.hyphenation_grammar.specs.Judging.{refusal_of}
use Rattle.hyphenation_grammar.specs.declared.Cause.{Cause}
use Rattle.hyphenation_load.specs.Load.{language_of_text, IsAcceptedIn, IsLoadErrorIn, AppendsTo}
use Rattle.hyphenation_score.specs.Scoring.{own_change}

-- ---- the output

-- Values in decimal, one space between, and a line feed.
abbrev pub score_line : List ℕ → List ℕ
score_line values = join_with_byte 32 (map decimal values) ++ 10 ∷ []

-- The values of a word's places by the dictionary of that kind that a text gives.
abbrev pub values_by : Kind → List ℕ → List ℕ → List ℕ
values_by kind word bytes = any.values_by (contents_as kind bytes) word

-- The line of a word's values by the dictionary of that kind that a text gives.
abbrev pub score_by : Kind → List ℕ → List ℕ → List ℕ
score_by kind word bytes = score_line (values_by kind word bytes)

-- The breaks of a word as written by the dictionary of that kind that a text gives, after edits.
abbrev pub breaks_by : Kind → List ℕ → List (List ℕ) → List ℕ → List Break
breaks_by Standard bytes edits word =
    all_breaks_of (rules_of no_change plain_break (after_edits place_as_listing (standard_contents bytes) edits)) word
breaks_by Extended bytes edits word =
    fitted_breaks_of (rules_of own_change own_break (after_edits break_as_listing (extended_contents bytes) edits)) word

-- The output of a run: the text with its words hyphenated by the dictionary of that kind that bytes give, after edits.
abbrev pub run_output : Kind → List (Bor (List ℕ)) → List ℕ → List ℕ → List ℕ → List ℕ
run_output kind edits mark bytes text = hyphenated_text (breaks_by kind bytes (texts_now edits)) mark text

-- The output of a run that hyphenates a text so.
abbrev pub marked_output : Kind → Marking → List ℕ → List ℕ → List ℕ
marked_output kind marking bytes text = run_output kind marking.edits.now marking.mark.now bytes text

-- If the bytes of the dictionary and of the input are known, this holds of them.
abbrev pub IfBothKnown : Option (List ℕ) → Option (List ℕ) → (List ℕ → List ℕ → Type 0) → Type 0
IfBothKnown dictionary input P = IfSome dictionary (λ bytes. IfSome input (λ text. P bytes text))

-- The text that is returned is the output for the bytes of the dictionary and of the input, if they are known.
abbrev pub RunReturns : {S : Type 0} → (S → List ℕ) → Result S RunError → (List ℕ → List ℕ → List ℕ)
    → Option (List ℕ) → Option (List ℕ) → Type 0
RunReturns bytes_of result output dictionary input =
    IfOk result (λ returned. IfBothKnown dictionary input (λ bytes text. bytes_of returned ≡ output bytes text))

-- On Ok, the output for the bytes of the dictionary and of the input, if they are known, was appended to a writer.
abbrev pub RunWrites : {W : Type 0} → Result (Unit {0}) RunError → (W → Option (List ℕ)) → W → W
    → (List ℕ → List ℕ → List ℕ) → Option (List ℕ) → Option (List ℕ) → Type 0
RunWrites result contents old new output dictionary input =
    OnOk result (IfBothKnown dictionary input (λ bytes text. AppendsTo contents old new (output bytes text)))

-- ---- the order in which a run fails

-- This holds where a run ended before the reading of its text: over its dictionary, or over an edit.
abbrev pub BeforeReading : {X : Type 0} → Result X RunError → Type 0 → Type 0
BeforeReading (Err (Dictionary e)) P = P
BeforeReading (Err (Edit number)) P = P
BeforeReading _ P = ⊤

-- This holds where a run ended before its writing.
abbrev pub BeforeWriting : Result (Unit {0}) RunError → Type 0 → Type 0
BeforeWriting (Ok done) P = ⊤
BeforeWriting (Err (Dictionary e)) P = P
BeforeWriting (Err (Edit number)) P = P
BeforeWriting (Err TextNotUtf8) P = P
BeforeWriting (Err (Input e)) P = P
BeforeWriting (Err (Output e)) P = ⊤
BeforeWriting (Err Memory) P = P

-- The dictionary is judged first. Its errors are those that its text gives. Any other result, but that of refused
-- memory, is of an accepted text of the asked language.
abbrev pub JudgesBytes : {X : Type 0} → Option (ℕ × Cause) → List ℕ → List ℕ → Result X RunError → Type 0
JudgesBytes refusal asked language (Err (Dictionary e)) = IsLoadErrorIn refusal asked language e
JudgesBytes refusal asked language (Err Memory) = ⊤
JudgesBytes refusal asked language _ = IsAcceptedIn refusal asked language

-- The bytes of the dictionary, if they are known, are judged as a text of that kind and language.
abbrev pub JudgesDictionary : {X : Type 0} → Kind → List ℕ → Option (List ℕ) → Result X RunError → Type 0
JudgesDictionary kind asked known result =
    IfSome known (λ bytes. JudgesBytes (refusal_of kind bytes) asked (language_of_text bytes) result)

-- Then the edits: the first that is refused, by its number; any later error or result only if each is good.
abbrev pub JudgesEdits : {X : Type 0} → Kind → List (List ℕ) → Result X RunError → Type 0
JudgesEdits kind edits (Err (Dictionary e)) = ⊤
JudgesEdits kind edits (Err (Edit number)) = first_refused kind edits ≡ Some number
JudgesEdits kind edits (Err Memory) = ⊤
JudgesEdits kind edits _ = first_refused kind edits ≡ None

-- Then the text: it is written only if it is UTF-8, and it is refused as not UTF-8 only if it is not.
abbrev pub JudgesUtf8 : {X : Type 0} → List ℕ → Result X RunError → Type 0
JudgesUtf8 text (Ok done) = IsUtf8 text
JudgesUtf8 text (Err TextNotUtf8) = ¬ (IsUtf8 text)
JudgesUtf8 text (Err (Output e)) = IsUtf8 text
JudgesUtf8 text (Err _) = ⊤

-- The bytes of the input, if they are known, are judged as a text.
abbrev pub JudgesText : {X : Type 0} → Option (List ℕ) → Result X RunError → Type 0
JudgesText known result = IfSome known (λ text. JudgesUtf8 text result)

-- ---- the errors of a run

-- Any error but one of writing.
abbrev pub IsUnwritten : RunError → Type 0
IsUnwritten (Dictionary e) = ⊤
IsUnwritten (Edit number) = ⊤
IsUnwritten TextNotUtf8 = ⊤
IsUnwritten (Input e) = ⊤
IsUnwritten (Output e) = ⊥
IsUnwritten Memory = ⊤

-- The errors of a score: its dictionary, the writing, or memory.
abbrev pub IsScoreError : RunError → Type 0
IsScoreError (Dictionary e) = ⊤
IsScoreError (Output e) = ⊤
IsScoreError Memory = ⊤
IsScoreError _ = ⊥

-- The errors of reading an input: an I/O error of a kind other than OutOfMemory, or memory.
abbrev pub IsInputError : RunError → Type 0
IsInputError (Input e) = error_kind e ≢ OutOfMemory
IsInputError Memory = ⊤
IsInputError _ = ⊥

-- The errors of an input that is read as a text: those of reading it, or that it is not UTF-8.
abbrev pub IsTextError : RunError → Type 0
IsTextError TextNotUtf8 = ⊤
IsTextError e = IsInputError e

-- An error of loading as that of a run.
abbrev pub run_error : Error → RunError
run_error (Deserialization line cause) = Dictionary (Deserialization line cause)
run_error (IO e) = Dictionary (IO e)
run_error (LanguageMismatch expected found) = Dictionary (LanguageMismatch expected found)
run_error (NoMemory e) = Memory

-- Errors of the dictionary and of the input are never of the kind OutOfMemory: that is `Memory`.
abbrev pub HidesNoOutOfMemory : RunError → Type 0
HidesNoOutOfMemory (Dictionary (IO e)) = error_kind e ≢ OutOfMemory
HidesNoOutOfMemory (Dictionary (NoMemory e)) = ⊥
HidesNoOutOfMemory (Input e) = error_kind e ≢ OutOfMemory
HidesNoOutOfMemory _ = ⊤
