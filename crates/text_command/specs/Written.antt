-- The results and the statuses of the program `hyphenate-text`.
use Rattle.std.specs.Prelude.{◌≡◌, ℕ, ◌||◌, Bool, not, true, List, [], ◌∷◌, codes, nat_eq, if◌then◌else◌, Option, None, Result, Ok, Err, ⊤}
use Rattle.std.specs.Borrow.{Bor}
use Rattle.std.specs.List.{ends_with, list_any}
use Rattle.any_dictionary.specs.Dictionaries.{places_by}
use Rattle.any_dictionary.specs.declared.AnyDictionary.{AnyDictionary}
use Rattle.command_line.specs.About.{help_or_version}
use Rattle.command_line.specs.Adjustments.{IsAdjustedOf, IsFailureOfAdjusted}
use Rattle.command_line.specs.Dictionaries.{KnownFiles}
use Rattle.command_line.specs.Endings.{End}
use Rattle.command_line.specs.Inputs.{is_standard_input, AreTextsOf}
use Rattle.command_line.specs.Options.{RefusedArgument}
use Rattle.command_line.specs.Steps.{EndsIn}
use Rattle.command_line.specs.declared.TheConstants.{VERSION}
use Rattle.command_line.specs.declared.failure.Failure.{Failure}
use Rattle.command_line.specs.declared.failure.Failure.TheVariants as failed
use Rattle.composed_words.specs.Composed.{through_composed}
use Rattle.text_words.specs.Words.{unless_mixed}
use Rattle.hyphenation_text.specs.Dictionaries.{Breaks}
use Rattle.hyphenation_text.specs.Markdown.{hyphenated_markdown_by}
use Rattle.hyphenation_text.specs.Texts.{hyphenated_by}
use Rattle.hyphenation_text.specs.Words.{within_limits}
use Rattle.text_results.specs.Files.{WrittenFiles}
use Rattle.text_results.specs.Removals.{EndsRemoval}
use Rattle.text_results.specs.Texts.{IsFailureAmong}
use Rattle.text_results.specs.Written.{Ends, EndsRefused}
use Rattle.text_command.specs.Arguments.{ParsedArgs, ParsedOptions, Task, Marks, Removes, parsed_args}
use Rattle.text_command.specs.declared.TheConstants.{NAME, USAGE}

-- The text that the arguments ask for by `--help` or `--version`, if they do.
abbrev pub asked_text : List (Bor (List ℕ)) → Option (List ℕ)
asked_text args = help_or_version NAME.now VERSION.now USAGE.now args

-- ---- results

-- A text is Markdown: the options say so, or its name ends so.
abbrev pub is_markdown : ParsedOptions → List ℕ → Bool
is_markdown options name =
    options.markdown || ends_with nat_eq name (codes ".md") || ends_with nat_eq name (codes ".markdown")

-- The breaks of words by options and a dictionary.
abbrev pub breaks_of : ParsedOptions → AnyDictionary → Breaks
breaks_of options dictionary =
    through_composed (within_limits options.min_word options.skip_capitals (unless_mixed (places_by dictionary)))

-- The result of a text of a name, by options and a dictionary: the text with the mark at the breaks of its words that change
-- no letters. Each word is broken as its NFC is.
abbrev pub result_of : ParsedOptions → AnyDictionary → List ℕ → List ℕ → List ℕ
result_of options dictionary name text =
    if is_markdown options name then hyphenated_markdown_by (breaks_of options dictionary) options.mark text
    else hyphenated_by (breaks_of options dictionary) options.mark text

-- The results of texts of these names, in their order.
abbrev pub results_of : ParsedOptions → AnyDictionary → List (List ℕ) → List (List ℕ) → List (List ℕ)
results_of options dictionary (name ∷ names) (text ∷ texts) =
    result_of options dictionary name text ∷ results_of options dictionary names texts
results_of options dictionary _ _ = []

-- Results of arguments: those of the texts that they name, in their order, by the dictionary that they name.
pub record AreResults (args : ParsedArgs) (bytes_of : KnownFiles) (folders : List (List ℕ)) (left : Option (List ℕ)) (results : List (List ℕ)) : Type 0 where
  pub dictionary : AnyDictionary
  pub named : IsAdjustedOf bytes_of folders args.dictionary args.adjustments dictionary
  pub texts : List (List ℕ)
  pub read : AreTextsOf bytes_of left args.inputs texts
  pub each : results ≡ results_of args.options dictionary args.inputs texts

-- ---- failures

-- The program fails so before it writes: the dictionary or a list is refused or not found, a text is not read, or memory was
-- refused.
abbrev pub IsFailureBefore : ParsedArgs → KnownFiles → List (List ℕ) → Option (List ℕ) → Failure → Type 0
IsFailureBefore args bytes_of folders left (failed.Dictionary path cause) =
    IsFailureOfAdjusted bytes_of folders args.dictionary args.adjustments (failed.Dictionary path cause)
IsFailureBefore args bytes_of folders left (failed.NoDictionary language) =
    IsFailureOfAdjusted bytes_of folders args.dictionary args.adjustments (failed.NoDictionary language)
IsFailureBefore args bytes_of folders left (failed.Exceptions list refusal) =
    IsFailureOfAdjusted bytes_of folders args.dictionary args.adjustments (failed.Exceptions list refusal)
IsFailureBefore args bytes_of folders left failed.Memory = ⊤
IsFailureBefore args bytes_of folders left (failed.Writing output) = ⊥
IsFailureBefore args bytes_of folders left failed.Output = ⊥
IsFailureBefore args bytes_of folders left failure = (dictionary : AnyDictionary)
    × IsAdjustedOf bytes_of folders args.dictionary args.adjustments dictionary × IsFailureAmong bytes_of left args.inputs failure

-- ---- how the program ends

-- How the program ends for its arguments: one is refused, or the results of its texts are written or fail.
abbrev pub EndsFor : {W S : Type 0} → Result Task RefusedArgument → KnownFiles → List (List ℕ) → Option (List ℕ)
    → (W → Option (List ℕ)) → W → W → (S → Option WrittenFiles) → S → S → End → Type 0
EndsFor (Err refused) bytes_of folders left contents old new written old_files new_files =
    EndsRefused refused old_files new_files
EndsFor (Ok (Removes removal)) bytes_of folders left contents old new written old_files new_files =
    EndsRemoval removal bytes_of left contents old new written old_files new_files
EndsFor (Ok (Marks args)) bytes_of folders left contents old new written old_files new_files =
    Ends (AreResults args bytes_of folders left) (IsFailureBefore args bytes_of folders left) args.options.target args.inputs
    contents old new written old_files new_files

-- Standard input is none of the texts of arguments, or one of the arguments is refused.
abbrev pub names_files_alone : Result Task RefusedArgument → Bool
names_files_alone (Ok (Removes removal)) = not (list_any is_standard_input removal.inputs)
names_files_alone (Ok (Marks args)) = not (list_any is_standard_input args.inputs)
names_files_alone (Err refused) = true

-- The program ends so for its arguments, as they are parsed. Standard input is as it was if it is none of the texts.
abbrev pub EndsParsed : {W S I : Type 0} → Result Task RefusedArgument → KnownFiles → List (List ℕ) → (I → Option (List ℕ)) → I → I
    → (W → Option (List ℕ)) → W → W → (S → Option WrittenFiles) → S → S → End → Type 0
EndsParsed parsed bytes_of folders remaining before after contents old new written old_files new_files end =
    EndsFor parsed bytes_of folders (remaining before) contents old new written old_files new_files end
    × (names_files_alone parsed ≡ true → after ≡ before)

-- If no help was asked for, the program ends so for its arguments.
abbrev pub EndsUnlessAsked : {W S I : Type 0} → List (Bor (List ℕ)) → KnownFiles → List (List ℕ) → (I → Option (List ℕ)) → I → I
    → (End → Type 0) → (W → Option (List ℕ)) → W → W → (S → Option WrittenFiles) → S → S → Type 0
EndsUnlessAsked args bytes_of folders remaining before after EndsSo contents old new written old_files new_files =
    asked_text args ≡ None → EndsIn EndsSo
    (EndsParsed (parsed_args args) bytes_of folders remaining before after contents old new written old_files new_files)
