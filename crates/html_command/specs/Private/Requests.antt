-- How a request in code corresponds to parsed arguments.
use Rattle.std.specs.Prelude.{◌≡◌, ℕ, List, [], map, option_copied, Result, Ok, Err}
use Rattle.hyphenation_breaks.specs.Borrowed.{texts_now}
use Rattle.command_line.specs.Adjustments.{as_adjustments}
use Rattle.command_line.specs.Options.{RefusedArgument}
use Rattle.command_line.specs.Reading.{as_refused}
use Rattle.command_line.specs.declared.options.BadArgument.{BadArgument}
use Rattle.text_results.specs.Reading.{as_target, parsed_removal}
use Rattle.html_command.specs.Arguments.{ParsedArgs, ParsedOptions, Task, Marks, Removes}
use Rattle.html_command.specs.Notes.{notes_text}
use Rattle.html_command.specs.declared.Noted.{Noted}
use Rattle.html_command.specs.declared.Noted.TheVariants.{Marked, Removed}
use Rattle.html_command.specs.declared.TheConstants.{NAME}
use Rattle.html_command.specs.declared.request.GivenDictionary.{GivenDictionary}
use Rattle.html_command.specs.declared.request.Options.{Options}
use Rattle.html_command.specs.declared.request.Request.{Request}
use Rattle.html_command.specs.declared.request.Task.{Task as TaskInCode}
use Rattle.html_command.specs.declared.request.Task.TheVariants.{Mark, Remove}

-- The code and the path of a dictionary that is given.
abbrev pub parsed_dictionary : GivenDictionary → List ℕ × List ℕ
parsed_dictionary given = (given.language, given.path.now)

-- The parsed options.
abbrev pub parsed_options : Options → ParsedOptions
parsed_options options = record {
  given = map parsed_dictionary options.given.items;
  folder = option_copied options.folder;
  language = options.language.now;
  adjustments = as_adjustments options.adjustments;
  mark = options.settings.mark.now;
  class = options.settings.class.now;
  min_word = options.settings.min_word;
  skip_capitals = options.settings.skip_capitals;
  quiet = options.quiet;
  target = as_target options.target;
}

-- The parsed arguments of a request.
abbrev pub parsed_request : Request → ParsedArgs
parsed_request request = record { options = parsed_options request.options; inputs = texts_now request.inputs.items }

-- The parsed task.
abbrev pub parsed_task : TaskInCode → Task
parsed_task (Mark request) = Marks (parsed_request request)
parsed_task (Remove removal) = Removes (parsed_removal removal)

-- The text of the notes of a task that is done.
abbrev pub noted_text : Noted → List ℕ
noted_text (Marked request notes) = notes_text NAME.now (texts_now request.inputs.items) notes.items
noted_text Removed = []

-- Options are as wanted, or the wanted refusal.
abbrev pub AreAsWanted : Result Options BadArgument → Result ParsedOptions RefusedArgument → Type 0
AreAsWanted (Ok options) wanted = wanted ≡ Ok (parsed_options options)
AreAsWanted (Err bad) wanted = wanted ≡ Err (as_refused bad)
