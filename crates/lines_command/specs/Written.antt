-- The output and the statuses of the program `hyphenate-lines`.
use Rattle.std.specs.Prelude.{◌≡◌, ◌⊎◌, ℕ, Bool, not, true, false, List, [], ◌∷◌, if◌then◌else◌, Option, None, Result}
use Rattle.std.specs.Prelude.{Ok, Err, ⊤}
use Rattle.std.specs.Borrow.{Bor}
use Rattle.std.specs.List.{concat, flat_map, list_any}
use Rattle.std.specs.String.{string_bytes}
use Rattle.hyphenation_grammar.specs.declared.form.Kind.{Kind}
use Rattle.hyphenation_grammar.specs.declared.form.Kind.TheVariants.{Standard, Extended}
use Rattle.hyphenation_breaks.specs.Break.{Break}
use Rattle.hyphenation_load.specs.Load.{AppendsTo}
use Rattle.any_dictionary.specs.Dictionaries.{breaks_by, kind_by}
use Rattle.any_dictionary.specs.declared.AnyDictionary.{AnyDictionary}
use Rattle.command_line.specs.About.{help_or_version}
use Rattle.command_line.specs.Adjustments.{IsAdjustedOf, IsFailureOfAdjusted}
use Rattle.command_line.specs.Dictionaries.{KnownFiles}
use Rattle.command_line.specs.Endings.{End, Done, Refuses, Fails, IsRefusal}
use Rattle.command_line.specs.Inputs.{is_standard_input, shown_name, IsTextOf, AreTextsOf, IsFailureOfInput}
use Rattle.command_line.specs.Options.{RefusedArgument}
use Rattle.command_line.specs.Steps.{EndsIn}
use Rattle.command_line.specs.declared.TheConstants.{VERSION}
use Rattle.command_line.specs.declared.failure.Failure.{Failure}
use Rattle.command_line.specs.declared.failure.Failure.TheVariants as failed
use Rattle.command_line.specs.declared.failure.InputRefusal.TheVariants.{LongParagraph}
use Rattle.paragraphs.specs.Pages.{IsPage, HasTooLong}
use Rattle.paragraphs.specs.Parts.{Style, ArePlain}
use Rattle.paragraphs.specs.Paragraphs.{ended, paragraphs}
use Rattle.paragraphs.specs.declared.setting.Aim.{Aim}
use Rattle.written_texts.specs.Blocks.{blocks}
use Rattle.written_texts.specs.Written.{IsWritten, HasTooLong as HasTooLongWritten}
use Rattle.lines_command.specs.Arguments.{ParsedArgs, ParsedOptions, parsed_args, style_for, aim_for}
use Rattle.lines_command.specs.declared.TheConstants.{NAME, USAGE}

-- The text that the arguments ask for by `--help` or `--version`, if they do.
abbrev pub asked_text : List (Bor (List ℕ)) → Option (List ℕ)
asked_text args = help_or_version NAME.now VERSION.now USAGE.now args

-- ---- what is written

-- A standard dictionary has only plain breaks.
abbrev pub PlainIfStandard : Kind → (List ℕ → List Break) → Type 0
PlainIfStandard Standard breaks_of = ArePlain breaks_of
PlainIfStandard Extended breaks_of = ⊤

-- These are the lines of a text: of its paragraphs, if it is plain, else of a text as people write it.
abbrev pub AreLines : Bool → Aim → (List ℕ → List Break) → Style → ℕ → List ℕ → List (List ℕ) → Type 0
AreLines true aim breaks_of style columns text lines = IsPage aim breaks_of style columns text lines
AreLines false aim breaks_of style columns text lines = IsWritten aim breaks_of style columns text lines

-- A page has the lines of a text as options ask for them, each with a line feed after it.
abbrev pub IsPageOf : ParsedOptions → AnyDictionary → List ℕ → List ℕ → Type 0
IsPageOf options dictionary text page = (lines : List (List ℕ))
    × AreLines options.plain (aim_for options) (breaks_by dictionary) (style_for options) options.columns text lines
    × (page ≡ flat_map ended lines)

-- Each text has its page.
abbrev pub ArePagesOf : ParsedOptions → AnyDictionary → List (List ℕ) → List (List ℕ) → Type 0
ArePagesOf options dictionary [] [] = ⊤
ArePagesOf options dictionary (text ∷ texts) (page ∷ pages) =
    IsPageOf options dictionary text page × ArePagesOf options dictionary texts pages
ArePagesOf options dictionary _ _ = ⊥

-- An output has the pages of these inputs, one after the other, by a dictionary.
pub record HasPages (options : ParsedOptions) (dictionary : AnyDictionary) (bytes_of : KnownFiles)
    (left : Option (List ℕ)) (names : List (List ℕ)) (output : List ℕ) : Type 0 where
  pub texts : List (List ℕ)
  pub read : AreTextsOf bytes_of left names texts
  pub pages : List (List ℕ)
  pub each : ArePagesOf options dictionary texts pages
  pub whole : output ≡ concat pages

-- An output is what arguments ask for: the pages of their inputs, by the dictionary that they name.
pub record IsResult (parsed : ParsedArgs) (bytes_of : KnownFiles) (folders : List (List ℕ)) (left : Option (List ℕ))
    (output : List ℕ) : Type 0 where
  pub dictionary : AnyDictionary
  pub named : IsAdjustedOf bytes_of folders parsed.dictionary parsed.adjustments dictionary
  pub plain : PlainIfStandard (kind_by dictionary) (breaks_by dictionary)
  pub pages : HasPages parsed.options dictionary bytes_of left parsed.inputs output

-- ---- failures

-- A paragraph of a text is too long: of one that is plain, or of one as people write it.
abbrev pub HasLongParagraph : Bool → (List ℕ → List Break) → Style → List ℕ → Type 0
HasLongParagraph true breaks_of style text = HasTooLong breaks_of style (paragraphs text)
HasLongParagraph false breaks_of style text = HasTooLongWritten breaks_of style (blocks text)

-- An input fails so: it can't be read, it is not UTF-8, or a paragraph of its text is too long.
abbrev pub IsFailureOfText : ParsedOptions → AnyDictionary → KnownFiles → Option (List ℕ) → List ℕ → Failure → Type 0
IsFailureOfText options dictionary bytes_of left name (failed.Refused input LongParagraph) =
    (string_bytes input ≡ shown_name name) × ((text : List ℕ) × IsTextOf bytes_of left name text
    × HasLongParagraph options.plain (breaks_by dictionary) (style_for options) text)
IsFailureOfText options dictionary bytes_of left name failure = IsFailureOfInput bytes_of left name failure

-- The bytes that standard input has left after an input was read, if they are known.
abbrev pub left_after : Option (List ℕ) → List ℕ → Option (List ℕ)
left_after left name = if is_standard_input name then None else left

-- One of some inputs fails so, and each one before it has a text.
abbrev pub IsFailureAmong : ParsedOptions → AnyDictionary → KnownFiles → Option (List ℕ) → List (List ℕ) → Failure
    → Type 0
IsFailureAmong options dictionary bytes_of left [] failure = ⊥
IsFailureAmong options dictionary bytes_of left (name ∷ names) failure =
    IsFailureOfText options dictionary bytes_of left name failure
    ⊎ (((text : List ℕ) × IsTextOf bytes_of left name text)
    × IsFailureAmong options dictionary bytes_of (left_after left name) names failure)

-- One of the inputs that arguments name fails so, with the dictionary that they name.
abbrev pub IsFailureOfInputs : ParsedArgs → KnownFiles → List (List ℕ) → Option (List ℕ) → Failure → Type 0
IsFailureOfInputs parsed bytes_of folders left failure = (dictionary : AnyDictionary)
    × IsAdjustedOf bytes_of folders parsed.dictionary parsed.adjustments dictionary
    × IsFailureAmong parsed.options dictionary bytes_of left parsed.inputs failure

-- The program fails so for arguments: the dictionary or a list is refused or not found, an input fails, the output can't be
-- written, or memory was refused.
abbrev pub IsFailureFor : ParsedArgs → KnownFiles → List (List ℕ) → Option (List ℕ) → Failure → Type 0
IsFailureFor parsed bytes_of folders left (failed.Dictionary path cause) =
    IsFailureOfAdjusted bytes_of folders parsed.dictionary parsed.adjustments (failed.Dictionary path cause)
IsFailureFor parsed bytes_of folders left (failed.NoDictionary language) =
    IsFailureOfAdjusted bytes_of folders parsed.dictionary parsed.adjustments (failed.NoDictionary language)
IsFailureFor parsed bytes_of folders left (failed.Exceptions list refusal) =
    IsFailureOfAdjusted bytes_of folders parsed.dictionary parsed.adjustments (failed.Exceptions list refusal)
IsFailureFor parsed bytes_of folders left (failed.Writing output) = ⊥
IsFailureFor parsed bytes_of folders left failed.Output = (page : List ℕ) × IsResult parsed bytes_of folders left page
IsFailureFor parsed bytes_of folders left failed.Memory = ⊤
IsFailureFor parsed bytes_of folders left failure = IsFailureOfInputs parsed bytes_of folders left failure

-- ---- how the program ends

-- The result of the arguments was appended to an output.
abbrev pub WritesResult : {W : Type 0} → ParsedArgs → KnownFiles → List (List ℕ) → Option (List ℕ)
    → (W → Option (List ℕ)) → W → W → Type 0
WritesResult parsed bytes_of folders left contents old new =
    (page : List ℕ) × IsResult parsed bytes_of folders left page × AppendsTo contents old new page

-- How the program ends for its arguments. If one is refused, it says which, or memory was refused. Else it is done, and
-- what they ask for was written, or it fails. After a failure the output is as it was, unless it is the output that failed.
abbrev pub EndsFor : {W : Type 0} → Result ParsedArgs RefusedArgument → KnownFiles → List (List ℕ) → Option (List ℕ)
    → (W → Option (List ℕ)) → W → W → End → Type 0
EndsFor (Err refused) bytes_of folders left contents old new end = IsRefusal refused end
EndsFor (Ok parsed) bytes_of folders left contents old new (Done notes) =
    (notes ≡ []) × WritesResult parsed bytes_of folders left contents old new
EndsFor (Ok parsed) bytes_of folders left contents old new (Fails failure) =
    IsFailureFor parsed bytes_of folders left failure × ((failure ≡ failed.Output) ⊎ (new ≡ old))
EndsFor (Ok parsed) bytes_of folders left contents old new (Refuses refused) = ⊥

-- Standard input is none of the inputs of arguments, or one of the arguments is refused.
abbrev pub names_files_alone : Result ParsedArgs RefusedArgument → Bool
names_files_alone (Ok parsed) = not (list_any is_standard_input parsed.inputs)
names_files_alone (Err refused) = true

-- The program ends so for its arguments, as they are parsed. Standard input is left as it was if it is none of the inputs.
abbrev pub EndsParsed : {W I : Type 0} → Result ParsedArgs RefusedArgument → KnownFiles → List (List ℕ)
    → (I → Option (List ℕ)) → I → I → (W → Option (List ℕ)) → W → W → End → Type 0
EndsParsed parsed bytes_of folders remaining before after contents old new end =
    EndsFor parsed bytes_of folders (remaining before) contents old new end
    × (names_files_alone parsed ≡ true → after ≡ before)

-- If no help was asked for, the program ends so for its arguments.
abbrev pub EndsUnlessAsked : {W I : Type 0} → List (Bor (List ℕ)) → KnownFiles → List (List ℕ)
    → (I → Option (List ℕ)) → I → I → (End → Type 0) → (W → Option (List ℕ)) → W → W → Type 0
EndsUnlessAsked args bytes_of folders remaining before after EndsSo contents old new = asked_text args ≡ None
    → EndsIn EndsSo (EndsParsed (parsed_args args) bytes_of folders remaining before after contents old new)
