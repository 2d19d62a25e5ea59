-- How the program `hyphenate-text` reads its arguments.
use Rattle.std.specs.Prelude.{ℕ, Bool, List, codes, Option, Some, None, Result, Ok, unwrap_or}
use Rattle.std.specs.Borrow.{Bor}
use Rattle.hyphenation_breaks.specs.Borrowed.{texts_now}
use Rattle.command_line.specs.Adjustments.{Adjustments, adjustments_of}
use Rattle.command_line.specs.Options.{GivenOption, ReadArguments, RefusedArgument, after_step, read_arguments, is_given, last_value, named_dictionary, number_given}
use Rattle.command_line.specs.Usage.{options_in}
use Rattle.text_results.specs.Removals.{ParsedRemoval, removal_of}
use Rattle.text_results.specs.declared.removal.Source.TheVariants.{Text}
use Rattle.text_results.specs.Targets.{Target, target_of, names_for}
use Rattle.text_command.specs.declared.TheConstants.{USAGE}
use Rattle.text_command.specs.declared.request.TheConstants.{SOFT_HYPHEN}

-- The options: the mark; the least number of characters of a word that is broken; whether words that begin with a capital
-- are left alone; whether each text is Markdown; where results go.
pub record ParsedOptions : Type 0 where
  pub mark : List ℕ
  pub min_word : ℕ
  pub skip_capitals : Bool
  pub markdown : Bool
  pub target : Target

-- The arguments of marks: the options, the adjustments and the path or the language of a dictionary, and the names of the
-- texts.
pub record ParsedArgs : Type 0 where
  pub options : ParsedOptions
  pub adjustments : Adjustments
  pub dictionary : List ℕ
  pub inputs : List (List ℕ)

-- The options by those that are given. The last of those of one name counts. The first that is refused decides, in this
-- order.
abbrev pub options_of : List GivenOption → Result ParsedOptions RefusedArgument
options_of given =
    after_step (λ min_word. after_step (λ target. Ok (record {
      mark = unwrap_or (last_value (codes "--mark") given) SOFT_HYPHEN.now;
      min_word = min_word;
      skip_capitals = is_given (codes "--skip-capitals") given;
      markdown = is_given (codes "--markdown") given;
      target = target;
    }))
    (target_of given))
    (number_given (codes "--min-word") 0 65535 0 given)

-- The arguments of options, adjustments, a dictionary and the names of texts.
abbrev pub args_with : ParsedOptions → Adjustments → List ℕ → List (List ℕ) → Result ParsedArgs RefusedArgument
args_with options adjustments dictionary names =
    after_step (λ inputs. Ok (record {
      options = options;
      adjustments = adjustments;
      dictionary = dictionary;
      inputs = inputs;
    }))
    (names_for options.target names)

-- The arguments of options and adjustments, and of a dictionary and the names of texts beside it, unless these are refused.
abbrev pub args_of : ParsedOptions → Adjustments → Result (List ℕ × List (List ℕ)) RefusedArgument
    → Result ParsedArgs RefusedArgument
args_of options adjustments named = after_step (λ found. args_with options adjustments found.0 found.1) named

-- The arguments of options, and of what else is read, unless that is refused.
abbrev pub args_by : ParsedOptions → ReadArguments → Result ParsedArgs RefusedArgument
args_by options read =
    after_step (λ adjustments. args_of options adjustments (named_dictionary read)) (adjustments_of read.given)

-- Arguments that are read.
abbrev pub args_as_read : ReadArguments → Result ParsedArgs RefusedArgument
args_as_read read = after_step (λ options. args_by options read) (options_of read.given)

-- The task of arguments: marks are put in, or soft hyphens are taken out.
pub data Task : Type 0 where
  Marks : ParsedArgs → Task
  Removes : ParsedRemoval → Task

-- The task of arguments that ask for this removal, or for none.
abbrev pub task_by : Option ParsedRemoval → ReadArguments → Result Task RefusedArgument
task_by (Some removal) read = Ok (Removes removal)
task_by None read = after_step (λ args. Ok (Marks args)) (args_as_read read)

-- The task of arguments that are read.
abbrev pub task_as_read : ReadArguments → Result Task RefusedArgument
task_as_read read = after_step (λ removal. task_by removal read) (removal_of Text read)

-- The task of all arguments, or the first that is refused.
abbrev pub parsed_args : List (Bor (List ℕ)) → Result Task RefusedArgument
parsed_args args = after_step task_as_read (read_arguments (options_in USAGE.now) (texts_now args))
