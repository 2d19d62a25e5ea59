-- How a request in code corresponds to parsed arguments.
use Rattle.std.specs.Prelude.{◌≡◌, ℕ, List, Result, Ok, Err}
use Rattle.std.specs.Borrow.{Bor}
use Rattle.hyphenation_breaks.specs.Borrowed.{texts_now}
use Rattle.command_line.specs.Adjustments.{as_adjustments}
use Rattle.command_line.specs.Options.{RefusedArgument, named_dictionary}
use Rattle.command_line.specs.Reading.{as_read, as_refused}
use Rattle.command_line.specs.declared.adjustments.Adjustments.{Adjustments}
use Rattle.command_line.specs.declared.options.Arguments.{Arguments}
use Rattle.command_line.specs.declared.options.BadArgument.{BadArgument}
use Rattle.text_results.specs.Reading.{as_target, parsed_removal}
use Rattle.text_command.specs.Arguments.{ParsedOptions, ParsedArgs, Task, Marks, Removes, args_of, args_with}
use Rattle.text_command.specs.declared.request.Options.{Options}
use Rattle.text_command.specs.declared.request.Request.{Request}
use Rattle.text_command.specs.declared.request.Task.{Task as TaskInCode}
use Rattle.text_command.specs.declared.request.Task.TheVariants.{Mark, Remove}

-- The parsed options.
abbrev pub parsed_options : Options → ParsedOptions
parsed_options options = record {
  mark = options.mark.now;
  min_word = options.min_word;
  skip_capitals = options.skip_capitals;
  markdown = options.markdown;
  target = as_target options.target;
}

-- The arguments of options, adjustments, a dictionary and the names of texts.
abbrev pub args_for : Options → Adjustments → List ℕ → List (Bor (List ℕ)) → Result ParsedArgs RefusedArgument
args_for options adjustments dictionary names =
    args_with (parsed_options options) (as_adjustments adjustments) dictionary (texts_now names)

-- The arguments of options, adjustments, and a dictionary and texts that are named.
abbrev pub args_named : Options → Adjustments → Arguments → Result ParsedArgs RefusedArgument
args_named options adjustments arguments =
    args_of (parsed_options options) (as_adjustments adjustments) (named_dictionary (as_read arguments))

-- The parsed arguments of a request.
abbrev pub parsed_request : Request → ParsedArgs
parsed_request request = record {
  options = parsed_options request.options;
  adjustments = as_adjustments request.adjustments;
  dictionary = request.dictionary.now;
  inputs = texts_now request.inputs.items;
}

-- The parsed task.
abbrev pub parsed_task : TaskInCode → Task
parsed_task (Mark request) = Marks (parsed_request request)
parsed_task (Remove removal) = Removes (parsed_removal removal)

-- Options are as wanted, or the wanted refusal.
abbrev pub AreAsWanted : Result Options BadArgument → Result ParsedOptions RefusedArgument → Type 0
AreAsWanted (Ok options) wanted = wanted ≡ Ok (parsed_options options)
AreAsWanted (Err bad) wanted = wanted ≡ Err (as_refused bad)
