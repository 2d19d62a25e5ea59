-- The results and the statuses of the program `hyphenate-html`.
use Rattle.std.specs.Prelude.{◌≡◌, ℕ, Bool, not, true, List, map, Option, None, Result, Ok, Err, ⊤}
use Rattle.std.specs.Borrow.{Bor}
use Rattle.std.specs.List.{AllZip, list_any}
use Rattle.command_line.specs.About.{help_or_version}
use Rattle.command_line.specs.Dictionaries.{KnownFiles}
use Rattle.command_line.specs.Endings.{End, Done, Refuses, Fails}
use Rattle.command_line.specs.Inputs.{is_standard_input, AreTextsOf}
use Rattle.command_line.specs.Options.{RefusedArgument}
use Rattle.command_line.specs.Steps.{EndsIn}
use Rattle.command_line.specs.declared.TheConstants.{VERSION}
use Rattle.command_line.specs.declared.failure.Failure.{Failure}
use Rattle.command_line.specs.declared.failure.Failure.TheVariants as failed
use Rattle.hyphenation_text.specs.Laws.{IsPageWithMarks, soft_hyphen}
use Rattle.hyphenation_html.specs.Places.{marked_page, IsDone}
use Rattle.hyphenation_html.specs.declared.languages.LanguageDictionary.{LanguageDictionary}
use Rattle.hyphenation_text.specs.declared.settings.Settings.{Settings}
use Rattle.text_results.specs.Files.{WrittenFiles}
use Rattle.text_results.specs.Removals.{EndsRemoval}
use Rattle.text_results.specs.Texts.{IsFailureAmong}
use Rattle.text_results.specs.Written.{EndsFailed, EndsRefused, WritesResults}
use Rattle.html_command.specs.declared.TheConstants.{NAME, USAGE}
use Rattle.html_command.specs.Arguments.{ParsedArgs, ParsedOptions, Task, Marks, Removes, parsed_args}
use Rattle.html_command.specs.Notes.{MarkedPage, notes_of, notes_on, notes_text, notes_told, texts_of}
use Rattle.html_command.specs.Dictionaries.{code_of, AreDictionariesFor, HasCodesOf, IsRefusedFor, tags_for}

-- The text that the arguments ask for by `--help` or `--version`, if they do.
abbrev pub asked_text : List (Bor (List ℕ)) → Option (List ℕ)
asked_text args = help_or_version NAME.now VERSION.now USAGE.now args

-- ---- results

-- The settings are those of the options.
abbrev pub HasSettingsOf : ParsedOptions → Settings → Type 0
HasSettingsOf options settings = (settings.mark.now ≡ options.mark) × (settings.class.now ≡ options.class)
    × (settings.min_word ≡ options.min_word) × (settings.skip_capitals ≡ options.skip_capitals)

-- The text of a result is the page with the mark at each break of its words, by some dictionaries. Their languages begin
-- with those of the arguments. First come those of the paths that the arguments give. Then come those of the folders, for
-- the language of the arguments and for those that the page names. All have the adjustments of the arguments, and those of
-- the folders before these the exceptions of their language. Without the marks it is the page, byte for byte. With
-- soft hyphens it is done: read again as a page, it names the same languages and stays as it is. The notes say which
-- language has no dictionary, and from which line on the page is left alone. With `--quiet` there are none.
pub record IsHyphenatedPage (options : ParsedOptions) (bytes_of : KnownFiles) (usual : List (List ℕ)) (page : List ℕ) (result : MarkedPage) : Type 0 where
  pub settings : Settings
  pub dictionaries : List LanguageDictionary
  pub of_options : HasSettingsOf options settings
  pub codes : HasCodesOf options (map code_of dictionaries)
  pub files : AreDictionariesFor bytes_of options usual (tags_for options page) dictionaries
  pub marked : result.text ≡ marked_page settings dictionaries options.language page
  pub kept : IsPageWithMarks options.mark page result.text
  pub twice : options.mark ≡ soft_hyphen → IsDone settings dictionaries options.language page result.text
  pub noted : result.notes ≡ notes_told options.quiet (notes_on dictionaries options.language settings page)

-- Each of some pages has its result.
abbrev pub AreHyphenated : ParsedOptions → KnownFiles → List (List ℕ) → List (List ℕ) → List MarkedPage → Type 0
AreHyphenated options bytes_of usual pages results = AllZip (IsHyphenatedPage options bytes_of usual) pages results

-- Results of arguments: those of the pages that they name, in their order, each by its own dictionaries.
abbrev pub AreResults : ParsedArgs → KnownFiles → List (List ℕ) → Option (List ℕ) → List MarkedPage → Type 0
AreResults args bytes_of usual left results = (pages : List (List ℕ))
    × AreTextsOf bytes_of left args.inputs pages × AreHyphenated args.options bytes_of usual pages results

-- These texts are those of such results.
abbrev pub AreTextsOfResults : ParsedArgs → KnownFiles → List (List ℕ) → Option (List ℕ) → List (List ℕ) → Type 0
AreTextsOfResults args bytes_of usual left texts =
    (results : List MarkedPage) × AreResults args bytes_of usual left results × (texts ≡ texts_of results)

-- ---- failures

-- The program fails so before it writes: a page is not read; or all are, and a dictionary or a list of exceptions is refused;
-- or memory was refused.
abbrev pub IsFailureBefore : ParsedArgs → KnownFiles → List (List ℕ) → Option (List ℕ) → Failure → Type 0
IsFailureBefore args bytes_of usual left (failed.Refused input cause) =
    IsFailureAmong bytes_of left args.inputs (failed.Refused input cause)
IsFailureBefore args bytes_of usual left (failed.Reading input) =
    IsFailureAmong bytes_of left args.inputs (failed.Reading input)
IsFailureBefore args bytes_of usual left (failed.Dictionary path cause) =
    ((pages : List (List ℕ)) × AreTextsOf bytes_of left args.inputs pages)
    × IsRefusedFor bytes_of args.options usual (failed.Dictionary path cause)
IsFailureBefore args bytes_of usual left (failed.Exceptions list refusal) =
    ((pages : List (List ℕ)) × AreTextsOf bytes_of left args.inputs pages)
    × IsRefusedFor bytes_of args.options usual (failed.Exceptions list refusal)
IsFailureBefore args bytes_of usual left failed.Memory = ⊤
IsFailureBefore args bytes_of usual left _ = ⊥

-- ---- how the program ends

-- The program is done: the texts of its results were written, and these are exactly the notes on its pages, each in its line.
abbrev pub EndsNoted : {W S : Type 0} → ParsedArgs → KnownFiles → List (List ℕ) → Option (List ℕ)
    → (W → Option (List ℕ)) → W → W → (S → Option WrittenFiles) → S → S → List ℕ → Type 0
EndsNoted args bytes_of usual left contents old new written old_files new_files notes =
    (results : List MarkedPage) × AreResults args bytes_of usual left results
    × (notes ≡ notes_text NAME.now args.inputs (notes_of results))
    × WritesResults (λ texts. texts ≡ texts_of results) args.options.target args.inputs contents old new
    written old_files new_files

-- How the program ends for its arguments: one is refused, or the results of its pages are written or fail.
abbrev pub EndsFor : {W S : Type 0} → Result Task RefusedArgument → KnownFiles → List (List ℕ) → Option (List ℕ)
    → (W → Option (List ℕ)) → W → W → (S → Option WrittenFiles) → S → S → End → Type 0
EndsFor (Err refused) bytes_of usual left contents old new written old_files new_files end =
    EndsRefused refused old_files new_files end
EndsFor (Ok (Removes removal)) bytes_of usual left contents old new written old_files new_files end =
    EndsRemoval removal bytes_of left contents old new written old_files new_files end
EndsFor (Ok (Marks args)) bytes_of usual left contents old new written old_files new_files (Done notes) =
    EndsNoted args bytes_of usual left contents old new written old_files new_files notes
EndsFor (Ok (Marks args)) bytes_of usual left contents old new written old_files new_files (Fails failure) =
    EndsFailed (AreTextsOfResults args bytes_of usual left) (IsFailureBefore args bytes_of usual left) args.options.target
    args.inputs old new written old_files new_files failure
EndsFor (Ok (Marks args)) bytes_of usual left contents old new written old_files new_files (Refuses refused) = ⊥

-- Standard input is none of the pages of arguments, or one of the arguments is refused.
abbrev pub names_files_alone : Result Task RefusedArgument → Bool
names_files_alone (Ok (Removes removal)) = not (list_any is_standard_input removal.inputs)
names_files_alone (Ok (Marks args)) = not (list_any is_standard_input args.inputs)
names_files_alone (Err refused) = true

-- The program ends so for its arguments, as they are parsed. Standard input is as it was if it is none of the pages.
abbrev pub EndsParsed : {W S I : Type 0} → Result Task RefusedArgument → KnownFiles → List (List ℕ) → (I → Option (List ℕ)) → I → I
    → (W → Option (List ℕ)) → W → W → (S → Option WrittenFiles) → S → S → End → Type 0
EndsParsed parsed bytes_of usual remaining before after contents old new written old_files new_files end =
    EndsFor parsed bytes_of usual (remaining before) contents old new written old_files new_files end
    × (names_files_alone parsed ≡ true → after ≡ before)

-- If no help was asked for, the program ends so for its arguments.
abbrev pub EndsUnlessAsked : {W S I : Type 0} → List (Bor (List ℕ)) → KnownFiles → List (List ℕ) → (I → Option (List ℕ)) → I → I
    → (End → Type 0) → (W → Option (List ℕ)) → W → W → (S → Option WrittenFiles) → S → S → Type 0
EndsUnlessAsked args bytes_of usual remaining before after EndsSo contents old new written old_files new_files =
    asked_text args ≡ None → EndsIn EndsSo
    (EndsParsed (parsed_args args) bytes_of usual remaining before after contents old new written old_files new_files)
