-- How requests in code correspond to parsed arguments, and the steps of a run.
use Rattle.std.specs.Prelude.{⊤}
use Rattle.hyphenation_breaks.specs.Borrowed.{texts_now}
use Rattle.command_line.specs.Adjustments.{as_adjustments}
use Rattle.command_line.specs.declared.failure.Failure.{Failure}
use Rattle.command_line.specs.declared.failure.Failure.TheVariants as failed
use Rattle.explain_command.specs.Arguments.{ParsedArgs}
use Rattle.explain_command.specs.declared.request.Request.{Request}

-- The parsed arguments of a request.
abbrev pub parsed_request : Request → ParsedArgs
parsed_request request = record {
  style = request.style;
  adjustments = as_adjustments request.adjustments;
  dictionary = request.dictionary.now;
  words = texts_now request.words.items;
}

-- If a run failed over its dictionary, and so before the reading of standard input, this holds.
abbrev pub BeforeReading : Type 0 → Failure → Type 0
BeforeReading P (failed.Dictionary path cause) = P
BeforeReading P (failed.NoDictionary language) = P
BeforeReading P (failed.Exceptions list refusal) = P
BeforeReading P _ = ⊤
