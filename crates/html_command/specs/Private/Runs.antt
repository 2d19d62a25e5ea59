-- The steps of a run.
use Rattle.std.specs.Prelude.{◌≡◌, ℕ, List, [], map, Option, ⊤}
use Rattle.std.specs.Borrow.{Bor}
use Rattle.std.specs.String.{string_bytes}
use Rattle.std.specs.declared.string.String.{String}
use Rattle.any_dictionary.specs.declared.AnyDictionary.{AnyDictionary}
use Rattle.command_line.specs.Adjustments.{Adjustments, IsFailureOfAdjusting, as_adjustments}
use Rattle.command_line.specs.Dictionaries.{KnownFiles, IsOfFile, IsRefusedAmong, IsRefusedFile}
use Rattle.command_line.specs.declared.failure.Failure.{Failure}
use Rattle.command_line.specs.declared.failure.Failure.TheVariants as failed
use Rattle.hyphenation_breaks.specs.Borrowed.{texts_now}
use Rattle.hyphenation_breaks.specs.Language.{IsCode}
use Rattle.hyphenation_html.specs.declared.languages.LanguageDictionary.{LanguageDictionary}
use Rattle.language_search.specs.Paths.{paths_of_code}
use Rattle.text_results.specs.Files.{WrittenFiles}
use Rattle.text_results.specs.Written.{WritesResults, IsFailureFor}
use Rattle.html_command.specs.Arguments.{ParsedArgs}
use Rattle.html_command.specs.Dictionaries.{IsFailureOfFound, IsFailureOfGiven, IsRefusedFor, folders_for}
use Rattle.html_command.specs.Private.Found.{AreFirst, AreLoaded}
use Rattle.html_command.specs.Private.Requests.{parsed_options, parsed_request}
use Rattle.html_command.specs.Notes.{MarkedPage, notes_of, notes_on, notes_told, texts_of}
use Rattle.html_command.specs.Written.{AreHyphenated, AreResults, AreTextsOfResults, IsFailureBefore, IsHyphenatedPage}
use Rattle.html_command.specs.declared.notes.Note.{Note}
use Rattle.html_command.specs.declared.notes.PageNote.{PageNote}
use Rattle.html_command.specs.declared.request.Options.{Options}
use Rattle.html_command.specs.declared.request.Request.{Request}

-- The dictionary at a path is refused so, or a list that it gets, or memory was.
abbrev pub IsRefusedAt : KnownFiles → Adjustments → List ℕ → Failure → Type 0
IsRefusedAt bytes_of adjustments path (failed.Exceptions list refusal) = (named : AnyDictionary)
    × IsOfFile (bytes_of path) named × IsFailureOfAdjusting bytes_of [] adjustments named (failed.Exceptions list refusal)
IsRefusedAt bytes_of adjustments path failure = IsRefusedFile (bytes_of path) path failure

-- One of the dictionaries at some paths is refused so, or a list that it gets, or memory was.
abbrev pub IsRefusedGiven : KnownFiles → Adjustments → List (List ℕ) → Failure → Type 0
IsRefusedGiven bytes_of adjustments paths (failed.Exceptions list refusal) =
    IsFailureOfGiven bytes_of adjustments paths (failed.Exceptions list refusal)
IsRefusedGiven bytes_of adjustments paths failure = IsRefusedAmong bytes_of paths failure

-- One of the dictionaries that folders have for codes of languages is refused so, or a list that it gets, or memory was.
abbrev pub IsRefusedFound : KnownFiles → List (List ℕ) → Adjustments → Failure → Type 0
IsRefusedFound bytes_of folders adjustments failed.Memory = ⊤
IsRefusedFound bytes_of folders adjustments (failed.Exceptions list refusal) =
    IsFailureOfFound bytes_of folders adjustments (failed.Exceptions list refusal)
IsRefusedFound bytes_of folders adjustments failure =
    (code : List ℕ) × IsCode code × IsRefusedAmong bytes_of (paths_of_code folders code) failure

-- The dictionaries of options fail so.
abbrev pub FailsOver : Options → KnownFiles → List (Bor (List ℕ)) → Failure → Type 0
FailsOver options bytes_of folders = IsRefusedFor bytes_of (parsed_options options) (texts_now folders)

-- These dictionaries are the first that the folders of these options have.
abbrev pub AreFirstBy : Options → KnownFiles → List (Bor (List ℕ)) → List LanguageDictionary → Type 0
AreFirstBy options bytes_of folders =
    AreFirst bytes_of (folders_for (parsed_options options) (texts_now folders)) (as_adjustments options.adjustments)

-- The dictionaries of a page of a run with these options, and others that are loaded.
abbrev pub AreLoadedBy : Options → KnownFiles → List (Bor (List ℕ)) → List LanguageDictionary → List LanguageDictionary → Type 0
AreLoadedBy options bytes_of folders = AreLoaded bytes_of (parsed_options options) (texts_now folders)

-- These are the notes that a page with these dictionaries gets.
abbrev pub AreNotesBy : Options → List LanguageDictionary → List ℕ → List Note → Type 0
AreNotesBy options dictionaries page notes =
    notes ≡ notes_told options.quiet (notes_on dictionaries options.language.now options.settings page)

-- This string with these notes is the result of a page.
abbrev pub IsResultBy : {Z : Type 0} → Options → KnownFiles → List (Bor (List ℕ)) → List ℕ → String Z → List Note → Type 0
IsResultBy options bytes_of folders page text notes =
    IsHyphenatedPage (parsed_options options) bytes_of (texts_now folders) page (record { text = string_bytes text; notes = notes })

-- These strings and notes are those of some results.
abbrev pub AreOf : {Z : Type 0} → List MarkedPage → List (String Z) → List PageNote → Type 0
AreOf results texts notes = (map string_bytes texts ≡ texts_of results) × (notes ≡ notes_of results)

-- These strings and notes are the results of pages.
abbrev pub AreResultsBy : {Y Z : Type 0} → Options → KnownFiles → List (Bor (List ℕ)) → List (String Y) → List (String Z)
    → List PageNote → Type 0
AreResultsBy options bytes_of folders pages texts notes = (results : List MarkedPage)
    × AreHyphenated (parsed_options options) bytes_of (texts_now folders) (map string_bytes pages) results
    × AreOf results texts notes

-- These strings and notes are the results of a request.
abbrev pub HasResults : {Z : Type 0} → Request → KnownFiles → List (Bor (List ℕ)) → Option (List ℕ) → List (String Z)
    → List PageNote → Type 0
HasResults request bytes_of folders left texts notes = (results : List MarkedPage)
    × AreResults (parsed_request request) bytes_of (texts_now folders) left results × AreOf results texts notes

-- The texts of results with these notes were written.
abbrev pub WritesNoted : {W S : Type 0} → ParsedArgs → KnownFiles → List (List ℕ) → Option (List ℕ) → List PageNote
    → (W → Option (List ℕ)) → W → W → (S → Option WrittenFiles) → S → S → Type 0
WritesNoted args bytes_of usual left notes contents old new written old_files new_files = (results : List MarkedPage)
    × AreResults args bytes_of usual left results × (notes ≡ notes_of results)
    × WritesResults (λ texts. texts ≡ texts_of results) args.options.target args.inputs contents old new
    written old_files new_files

-- The results of a request were written, and have these notes.
abbrev pub WritesRequest : {W S : Type 0} → Request → KnownFiles → List (Bor (List ℕ)) → Option (List ℕ) → List PageNote
    → (W → Option (List ℕ)) → W → W → (S → Option WrittenFiles) → S → S → Type 0
WritesRequest request bytes_of folders left = WritesNoted (parsed_request request) bytes_of (texts_now folders) left

-- The failure of a request before anything is written.
abbrev pub FailsBefore : Request → KnownFiles → List (Bor (List ℕ)) → Option (List ℕ) → Failure → Type 0
FailsBefore request bytes_of folders left = IsFailureBefore (parsed_request request) bytes_of (texts_now folders) left

-- The failure of a request.
abbrev pub IsFailureOfRequest : {S : Type 0} → Request → KnownFiles → List (Bor (List ℕ)) → Option (List ℕ)
    → (S → Option WrittenFiles) → S → S → Failure → Type 0
IsFailureOfRequest request bytes_of folders left =
    let args : ParsedArgs = parsed_request request in
    let usual : List (List ℕ) = texts_now folders in
    IsFailureFor (AreTextsOfResults args bytes_of usual left) (IsFailureBefore args bytes_of usual left) args.options.target args.inputs
