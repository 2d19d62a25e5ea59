-- The messages of the program `hyphenate`.
use Rattle.std.specs.Prelude.{ℕ, List, [], ◌++◌, codes, Option, Some, Result, Ok, Err}
use Rattle.std.specs.Fmt.{◌++?◌, decimal}
use Rattle.hyphenation_grammar.specs.Messages.{error_text}
use Rattle.hyphenation.specs.declared.engine.RunError.{RunError}
use Rattle.hyphenation.specs.declared.engine.RunError.TheVariants.{Dictionary, Edit, TextNotUtf8, Input, Output, Memory}

-- The message for why a run failed, by the path of the dictionary. None is known where that can't be opened or read: the
-- system has words for it.
abbrev pub failure_message : List ℕ → RunError → Option (List ℕ)
failure_message path (Dictionary cause) =
    Some (codes "hyphenate: ") ++? (Some path ++? (Some (codes ": ") ++? (error_text cause ++? Some (codes "\n"))))
failure_message path (Edit number) = Some (codes "hyphenate: edit " ++ (decimal number ++ codes " is refused\n"))
failure_message path TextNotUtf8 = Some (codes "hyphenate: the text is not UTF-8\n")
failure_message path (Input e) = Some (codes "hyphenate: the text can't be read\n")
failure_message path (Output e) = Some (codes "hyphenate: the result can't be written\n")
failure_message path Memory = Some (codes "hyphenate: no memory\n")

-- The message of the end of a run. A run that is done has none.
abbrev pub message_of : List ℕ → Result (Unit {0}) RunError → Option (List ℕ)
message_of path (Ok done) = Some []
message_of path (Err error) = failure_message path error
