-- How the program `hyphenate-lines` reads its arguments.
use Rattle.std.specs.Prelude.{ℕ, ◌==◌, ◌&&◌, not, Bool, if◌then◌else◌, is_some, List, []}
use Rattle.std.specs.Prelude.{codes, Option, Some, None, Result, Ok, Err, unwrap_or}
use Rattle.std.specs.Borrow.{Bor}
use Rattle.hyphenation_breaks.specs.Borrowed.{texts_now}
use Rattle.command_line.specs.Adjustments.{Adjustments, adjustments_of}
use Rattle.command_line.specs.Options.{GivenOption, ReadArguments, RefusedArgument, refused, after_step, read_arguments}
use Rattle.command_line.specs.Options.{is_given, last_value, named_dictionary, number_given}
use Rattle.command_line.specs.Usage.{options_in}
use Rattle.command_line.specs.declared.options.Expected.TheVariants.{EvenLines}
use Rattle.paragraphs.specs.Parts.{Style}
use Rattle.paragraphs.specs.declared.setting.Aim.{Aim}
use Rattle.paragraphs.specs.declared.setting.Aim.TheVariants.{Full, Even}
use Rattle.text_results.specs.Targets.{inputs_of}
use Rattle.lines_command.specs.declared.TheConstants.{USAGE}

-- The options: whether texts are only paragraphs; the columns of a line; whether lines are even; the columns below
-- which the last line of a paragraph is too short; how many lines in a row may end in a hyphen, if it is limited; the
-- cost of a hyphen; the text before the first line, if it has its own; the text before the others.
pub record ParsedOptions : Type 0 where
  pub plain : Bool
  pub columns : ℕ
  pub even : Bool
  pub last_columns : ℕ
  pub ladder : Option ℕ
  pub price : ℕ
  pub first : Option (List ℕ)
  pub indent : List ℕ

-- Arguments: the options, the adjustments and the path or the language of a dictionary, and the names of the inputs.
pub record ParsedArgs : Type 0 where
  pub options : ParsedOptions
  pub adjustments : Adjustments
  pub dictionary : List ℕ
  pub inputs : List (List ℕ)

-- The number that limits a row of hyphens; 0 means no limit.
abbrev pub limit_of : ℕ → Option ℕ
limit_of n = if n == 0 then None else Some n

-- A limit is asked for, and lines are not even.
abbrev pub has_idle_ladder : ParsedOptions → Bool
has_idle_ladder options = is_some options.ladder && not options.even

-- The options, unless they have a limit that is only for even lines.
abbrev pub if_limit_serves : Option (List ℕ) → ParsedOptions → Result ParsedOptions RefusedArgument
if_limit_serves ladder options =
    if has_idle_ladder options then Err (refused (codes "--ladder") ladder EvenLines) else Ok options

-- The options by those that are given. The last of those of one name counts. The first that is refused decides, in this
-- order.
abbrev pub options_of : List GivenOption → Result ParsedOptions RefusedArgument
options_of given =
    after_step (λ columns. after_step (λ last_columns. after_step (λ ladder. after_step (λ price.
    if_limit_serves (last_value (codes "--ladder") given) (record {
      plain = is_given (codes "--plain") given;
      columns = columns;
      even = is_given (codes "--even") given;
      last_columns = last_columns;
      ladder = limit_of ladder;
      price = price;
      first = last_value (codes "--first") given;
      indent = unwrap_or (last_value (codes "--indent") given) [];
    }))
    (number_given (codes "--price") 0 4294967295 0 given))
    (number_given (codes "--ladder") 1 255 0 given))
    (number_given (codes "--last") 0 65535 0 given))
    (number_given (codes "--width") 0 65535 72 given)

-- The arguments of options and adjustments, and of a dictionary and the names of inputs beside it, unless these are refused.
abbrev pub args_of : ParsedOptions → Adjustments → Result (List ℕ × List (List ℕ)) RefusedArgument
    → Result ParsedArgs RefusedArgument
args_of options adjustments named =
    after_step (λ found. Ok (record {
      options = options;
      adjustments = adjustments;
      dictionary = found.0;
      inputs = inputs_of found.1;
    })) named

-- The arguments of options, and of what else is read, unless that is refused.
abbrev pub args_with : ParsedOptions → ReadArguments → Result ParsedArgs RefusedArgument
args_with options read =
    after_step (λ adjustments. args_of options adjustments (named_dictionary read)) (adjustments_of read.given)

-- Arguments that are read.
abbrev pub args_as_read : ReadArguments → Result ParsedArgs RefusedArgument
args_as_read read = after_step (λ options. args_with options read) (options_of read.given)

-- All arguments as they are parsed, or the first that is refused.
abbrev pub parsed_args : List (Bor (List ℕ)) → Result ParsedArgs RefusedArgument
parsed_args args = after_step args_as_read (read_arguments (options_in USAGE.now) (texts_now args))

-- The style that options ask for.
abbrev pub style_for : ParsedOptions → Style
style_for options =
    record { first = unwrap_or options.first options.indent; indent = options.indent; price = options.price }

-- The division into lines that options ask for.
abbrev pub aim_for : ParsedOptions → Aim
aim_for options = if options.even then Even options.last_columns options.ladder else Full
