-- The steps of a run.
use Rattle.std.specs.Prelude.{◌≡◌, ℕ, ◌++◌, List, Option, map, ⊤}
use Rattle.std.specs.Borrow.{Bor}
use Rattle.std.specs.List.{concat}
use Rattle.std.specs.String.{string_bytes}
use Rattle.std.specs.declared.string.String.{String}
use Rattle.hyphenation_breaks.specs.Borrowed.{texts_now}
use Rattle.hyphenation_breaks.specs.Break.{Break}
use Rattle.any_dictionary.specs.declared.AnyDictionary.{AnyDictionary}
use Rattle.command_line.specs.Dictionaries.{KnownFiles}
use Rattle.command_line.specs.Inputs.{shown_name, IsTextOf, AreTextsOf}
use Rattle.command_line.specs.declared.failure.Failure.{Failure}
use Rattle.command_line.specs.declared.failure.Failure.TheVariants as failed
use Rattle.command_line.specs.declared.failure.InputRefusal.TheVariants.{LongParagraph}
use Rattle.lines_command.specs.Arguments.{ParsedOptions, aim_for, style_for}
use Rattle.lines_command.specs.Private.Requests.{parsed_options, parsed_request}
use Rattle.lines_command.specs.declared.request.Options.{Options}
use Rattle.lines_command.specs.declared.request.Request.{Request}
use Rattle.lines_command.specs.Written.{AreLines, HasLongParagraph, IsPageOf, ArePagesOf, HasPages, IsFailureAmong}
use Rattle.lines_command.specs.Written.{WritesResult}

-- The page of an input was appended to a text.
pub record AddsPage (options : ParsedOptions) (dictionary : AnyDictionary) (bytes_of : KnownFiles)
    (left : Option (List ℕ)) (name old new : List ℕ) : Type 0 where
  pub text : List ℕ
  pub read : IsTextOf bytes_of left name text
  pub page : List ℕ
  pub filled : IsPageOf options dictionary text page
  pub whole : new ≡ old ++ page

-- The same of two strings.
abbrev pub AddsTo : {Z : Type 0} → ParsedOptions → AnyDictionary → KnownFiles → Option (List ℕ) → List ℕ
    → String Z → String Z → Type 0
AddsTo options dictionary bytes_of left name old new =
    AddsPage options dictionary bytes_of left name (string_bytes old) (string_bytes new)

-- A string has the pages of the inputs of some names.
abbrev pub HasAllPages : {Z : Type 0} → ParsedOptions → AnyDictionary → KnownFiles → Option (List ℕ)
    → List (Bor (List ℕ)) → String Z → Type 0
HasAllPages options dictionary bytes_of left names page =
    HasPages options dictionary bytes_of left (texts_now names) (string_bytes page)

-- These are the lines of a text as some options ask for them, by these breaks of words.
abbrev pub AreLinesBy : {Z : Type 0} → Options → (List ℕ → List Break) → List ℕ → List (String Z) → Type 0
AreLinesBy options breaks_of text lines = AreLines options.plain (aim_for (parsed_options options)) breaks_of
    (style_for (parsed_options options)) options.columns text (map string_bytes lines)

-- A paragraph of a text is too long as some options ask for its lines, by these breaks of words.
abbrev pub IsTooLongBy : Options → (List ℕ → List Break) → List ℕ → Type 0
IsTooLongBy options breaks_of text =
    HasLongParagraph options.plain breaks_of (style_for (parsed_options options)) text

-- The result of a request was appended to an output.
abbrev pub WritesRequest : {W : Type 0} → Request → KnownFiles → List (Bor (List ℕ)) → Option (List ℕ)
    → (W → Option (List ℕ)) → W → W → Type 0
WritesRequest request bytes_of folders left contents old new =
    WritesResult (parsed_request request) bytes_of (texts_now folders) left contents old new

-- The failure says that a paragraph of the input of this name is too long, or that memory was refused.
abbrev pub IsLongParagraph : List ℕ → Failure → Type 0
IsLongParagraph name (failed.Refused input LongParagraph) = string_bytes input ≡ shown_name name
IsLongParagraph name failed.Memory = ⊤
IsLongParagraph name _ = ⊥

-- If a run failed over its dictionary, and so before the reading of an input, this holds.
abbrev pub BeforeReading : Type 0 → Failure → Type 0
BeforeReading P (failed.Dictionary path cause) = P
BeforeReading P (failed.NoDictionary language) = P
BeforeReading P (failed.Exceptions list refusal) = P
BeforeReading P _ = ⊤

-- Where the inputs that are left have their pages, all have theirs on a page that goes on with these. Where one of them
-- fails, that one fails of all.
pub record GoesOn (options : ParsedOptions) (dictionary : AnyDictionary) (bytes_of : KnownFiles)
    (first : Option (List ℕ)) (all : List (List ℕ)) (left : Option (List ℕ)) (names : List (List ℕ)) (page : List ℕ)
    : Type 0 where
  pub pages : (texts pages : List (List ℕ)) → AreTextsOf bytes_of left names texts
      → ArePagesOf options dictionary texts pages
      → HasPages options dictionary bytes_of first all (page ++ concat pages)
  pub fails : (failure : Failure) → IsFailureAmong options dictionary bytes_of left names failure
      → IsFailureAmong options dictionary bytes_of first all failure
