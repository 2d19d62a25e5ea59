-- The steps of a run.
use Rattle.std.specs.Prelude.{◌≡◌, ℕ, List, map, Option, ⊤}
use Rattle.std.specs.Borrow.{Bor}
use Rattle.std.specs.String.{string_bytes}
use Rattle.std.specs.declared.string.String.{String}
use Rattle.hyphenation_breaks.specs.Borrowed.{texts_now}
use Rattle.any_dictionary.specs.declared.AnyDictionary.{AnyDictionary}
use Rattle.command_line.specs.Dictionaries.{KnownFiles}
use Rattle.command_line.specs.Inputs.{AreTextsOf}
use Rattle.command_line.specs.declared.failure.Failure.{Failure}
use Rattle.command_line.specs.declared.failure.Failure.TheVariants as failed
use Rattle.text_results.specs.Files.{WrittenFiles}
use Rattle.text_results.specs.Written.{WritesResults, IsFailureFor}
use Rattle.text_command.specs.Arguments.{ParsedArgs}
use Rattle.text_command.specs.Private.Requests.{parsed_options, parsed_request}
use Rattle.text_command.specs.Written.{results_of, AreResults, IsFailureBefore}
use Rattle.text_command.specs.declared.request.Options.{Options}
use Rattle.text_command.specs.declared.request.Request.{Request}

-- These strings are the results of texts of these names.
abbrev pub AreResultsOf : {Y Z : Type 0} → Options → AnyDictionary → List (Bor (List ℕ)) → List (String Y) → List (String Z) → Type 0
AreResultsOf options dictionary names texts results =
    map string_bytes results ≡ results_of (parsed_options options) dictionary (texts_now names) (map string_bytes texts)

-- Results of arguments by a dictionary: those of the texts that they name, in their order.
abbrev pub AreResultsBy : ParsedArgs → AnyDictionary → KnownFiles → Option (List ℕ) → List (List ℕ) → Type 0
AreResultsBy args dictionary bytes_of left results = (texts : List (List ℕ))
    × AreTextsOf bytes_of left args.inputs texts × (results ≡ results_of args.options dictionary args.inputs texts)

-- These strings are the results of a request by a dictionary.
abbrev pub HasResultsBy : {Z : Type 0} → Request → AnyDictionary → KnownFiles → Option (List ℕ) → List (String Z) → Type 0
HasResultsBy request dictionary bytes_of left results =
    AreResultsBy (parsed_request request) dictionary bytes_of left (map string_bytes results)

-- These strings are the results of a request.
abbrev pub HasResults : {Z : Type 0} → Request → KnownFiles → List (Bor (List ℕ)) → Option (List ℕ) → List (String Z) → Type 0
HasResults request bytes_of folders left results =
    AreResults (parsed_request request) bytes_of (texts_now folders) left (map string_bytes results)

-- The results of a request were written.
abbrev pub WritesRequest : {W S : Type 0} → Request → KnownFiles → List (Bor (List ℕ)) → Option (List ℕ)
    → (W → Option (List ℕ)) → W → W → (S → Option WrittenFiles) → S → S → Type 0
WritesRequest request bytes_of folders left =
    let args : ParsedArgs = parsed_request request in
    WritesResults (AreResults args bytes_of (texts_now folders) left) args.options.target args.inputs

-- The failure of a request.
abbrev pub IsFailureOfRequest : {S : Type 0} → Request → KnownFiles → List (Bor (List ℕ)) → Option (List ℕ)
    → (S → Option WrittenFiles) → S → S → Failure → Type 0
IsFailureOfRequest request bytes_of folders left =
    let args : ParsedArgs = parsed_request request in
    let usual : List (List ℕ) = texts_now folders in
    IsFailureFor (AreResults args bytes_of usual left) (IsFailureBefore args bytes_of usual left) args.options.target args.inputs

-- If a run failed over its dictionary, and so before the reading of a text, this holds.
abbrev pub BeforeReading : Type 0 → Failure → Type 0
BeforeReading P (failed.Dictionary path cause) = P
BeforeReading P (failed.NoDictionary language) = P
BeforeReading P (failed.Exceptions list refusal) = P
BeforeReading P _ = ⊤
