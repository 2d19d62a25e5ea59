-- How a request in code corresponds to parsed arguments.
use Rattle.std.specs.Prelude.{◌≡◌, option_map, Result, Ok, Err}
use Rattle.hyphenation_breaks.specs.Borrowed.{texts_now}
use Rattle.command_line.specs.Adjustments.{as_adjustments}
use Rattle.command_line.specs.Options.{RefusedArgument, named_dictionary}
use Rattle.command_line.specs.Reading.{as_read, as_refused}
use Rattle.command_line.specs.declared.adjustments.Adjustments.{Adjustments}
use Rattle.command_line.specs.declared.options.Arguments.{Arguments}
use Rattle.command_line.specs.declared.options.BadArgument.{BadArgument}
use Rattle.lines_command.specs.Arguments.{ParsedOptions, ParsedArgs, args_of}
use Rattle.lines_command.specs.declared.request.Options.{Options}
use Rattle.lines_command.specs.declared.request.Request.{Request}

-- The parsed options.
abbrev pub parsed_options : Options → ParsedOptions
parsed_options options = record {
  plain = options.plain;
  columns = options.columns;
  even = options.even;
  last_columns = options.last_columns;
  ladder = options.ladder;
  price = options.price;
  first = option_map (λ text. text.now) options.first;
  indent = options.indent.now;
}

-- The arguments of options, adjustments, and a dictionary and inputs that are named.
abbrev pub args_named : Options → Adjustments → Arguments → Result ParsedArgs RefusedArgument
args_named options adjustments arguments =
    args_of (parsed_options options) (as_adjustments adjustments) (named_dictionary (as_read arguments))

-- The parsed arguments of a request.
abbrev pub parsed_request : Request → ParsedArgs
parsed_request request = record {
  options = parsed_options request.options;
  adjustments = as_adjustments request.adjustments;
  dictionary = request.dictionary.now;
  inputs = texts_now request.inputs.items;
}

-- Options are as wanted, or the wanted refusal.
abbrev pub AreAsWanted : Result Options BadArgument → Result ParsedOptions RefusedArgument → Type 0
AreAsWanted (Ok options) wanted = wanted ≡ Ok (parsed_options options)
AreAsWanted (Err bad) wanted = wanted ≡ Err (as_refused bad)
