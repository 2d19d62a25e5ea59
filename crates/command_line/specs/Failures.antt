-- The statuses and the messages of failures.
use Rattle.std.specs.Prelude.{ℕ, List, ◌++◌, codes, Option, Some}
use Rattle.std.specs.Fmt.{◌++?◌, decimal}
use Rattle.std.specs.String.{string_bytes}
use Rattle.hyphenation_grammar.specs.Messages.{error_text}
use Rattle.command_line.specs.declared.failure.Failure.{Failure}
use Rattle.command_line.specs.declared.failure.Failure.TheVariants as failed
use Rattle.command_line.specs.declared.failure.InputRefusal.{InputRefusal}
use Rattle.command_line.specs.declared.failure.InputRefusal.TheVariants.{NotUtf8, LongParagraph}
use Rattle.command_line.specs.declared.failure.ListRefusal.{ListRefusal}
use Rattle.command_line.specs.declared.failure.ListRefusal.TheVariants.{Unread, OnLine}
use Rattle.pattern_results.specs.Messages.{fault_message}

-- The status with which a program ends for a failure.
abbrev pub status_of : Failure → ℕ
status_of (failed.Dictionary path cause) = 3
status_of (failed.NoDictionary language) = 3
status_of (failed.Exceptions path cause) = 3
status_of (failed.Refused input cause) = 4
status_of (failed.Reading input) = 5
status_of (failed.Writing output) = 5
status_of failed.Output = 5
status_of failed.Memory = 6

-- The words for why an input is refused.
abbrev pub refusal_words : InputRefusal → List ℕ
refusal_words (NotUtf8 valid line) =
    codes "not UTF-8: line " ++ (decimal line ++ (codes ", after " ++ (decimal valid ++ codes " bytes")))
refusal_words LongParagraph = codes "a paragraph is too long"

-- The words for why a list of exceptions is refused.
abbrev pub list_refusal_words : ListRefusal → List ℕ
list_refusal_words Unread = codes "can't be read"
list_refusal_words (OnLine line cause) = codes "line " ++ (decimal line ++ (codes ": " ++ fault_message cause))

-- The words for why a run failed. None are known where the file of a dictionary can't be opened or read: the system has
-- words for that.
abbrev pub failure_text : Failure → Option (List ℕ)
failure_text (failed.Dictionary path cause) =
    Some (string_bytes path) ++? (Some (codes ": ") ++? error_text cause)
failure_text (failed.NoDictionary language) = Some (string_bytes language
    ++ codes ": there is no dictionary of this language; hyphenate-languages makes those that it can")
failure_text (failed.Exceptions path cause) = Some (string_bytes path ++ (codes ": " ++ list_refusal_words cause))
failure_text (failed.Refused input cause) = Some (string_bytes input ++ (codes ": " ++ refusal_words cause))
failure_text (failed.Reading input) = Some (string_bytes input ++ codes ": can't be read")
failure_text (failed.Writing output) = Some (string_bytes output ++ codes ": can't be written")
failure_text failed.Output = Some (codes "the result can't be written")
failure_text failed.Memory = Some (codes "no memory")

-- The line in which the program of a name says why it failed.
abbrev pub failure_line : List ℕ → Failure → Option (List ℕ)
failure_line name failure = Some name ++? (Some (codes ": ") ++? (failure_text failure ++? Some (codes "\n")))
