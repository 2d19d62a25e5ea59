-- How the program `hyphenate-html` reads its arguments.
use Rattle.std.specs.Prelude.{ℕ, ◌+◌, ◌==◌, Bool, List, [], ◌∷◌, ◌++◌, codes, take, drop, if◌then◌else◌, Option, Some, None, option_and_then, position, is_some, Result, Ok, Err, unwrap_or}
use Rattle.std.specs.Borrow.{Bor}
use Rattle.command_line.specs.Adjustments.{Adjustments, adjustments_of}
use Rattle.command_line.specs.Options.{GivenOption, ReadArguments, RefusedArgument, refused, after_step, read_arguments, is_given, last_value, values_of, number_given}
use Rattle.command_line.specs.Usage.{options_in}
use Rattle.command_line.specs.declared.options.Expected.TheVariants.{CodeAlone, CodeAndPath}
use Rattle.hyphenation_breaks.specs.Borrowed.{texts_now}
use Rattle.hyphenation_breaks.specs.Language.{is_code}
use Rattle.hyphenation_text.specs.Laws.{soft_hyphen}
use Rattle.text_results.specs.Removals.{ParsedRemoval, removal_of}
use Rattle.text_results.specs.declared.removal.Source.TheVariants.{Page}
use Rattle.text_results.specs.Targets.{Target, target_of, names_for}
use Rattle.html_command.specs.declared.TheConstants.{USAGE}

-- The options: the codes of languages with the paths of their dictionaries; the folder in which others are searched, if one
-- is given; the language of text for which the page names none; the adjustments of dictionaries; the mark; the class of
-- elements that are left alone; the least number of characters of a word; whether words with a first capital are left alone;
-- whether no notes are written; where results go.
pub record ParsedOptions : Type 0 where
  pub given : List (List ℕ × List ℕ)
  pub folder : Option (List ℕ)
  pub language : List ℕ
  pub adjustments : Adjustments
  pub mark : List ℕ
  pub class : List ℕ
  pub min_word : ℕ
  pub skip_capitals : Bool
  pub quiet : Bool
  pub target : Target

-- The arguments of marks: the options, and the names of the pages.
pub record ParsedArgs : Type 0 where
  pub options : ParsedOptions
  pub inputs : List (List ℕ)

-- The code and the path of `CODE=PATH`, which is cut at its first `=`; none where there is no sign, or no code.
abbrev pub code_and_path : List ℕ → Option (List ℕ × List ℕ)
code_and_path text = option_and_then
    (λ at. if is_code (take at text) then Some (take at text, drop (at + 1) text) else None)
    (position (λ b. b == 61) text)

-- A dictionary, or the refusal of the value of `--dictionary` that gives none.
abbrev pub dictionary_or_refused : List ℕ → Option (List ℕ × List ℕ) → Result (List ℕ × List ℕ) RefusedArgument
dictionary_or_refused value (Some one) = Ok one
dictionary_or_refused value None = Err (refused (codes "--dictionary") (Some value) CodeAndPath)

-- Dictionaries after some others, by values of `--dictionary`. The first that is refused decides.
abbrev pub dictionaries_after : List (List ℕ × List ℕ) → List (List ℕ) → Result (List (List ℕ × List ℕ)) RefusedArgument
dictionaries_after so_far [] = Ok so_far
dictionaries_after so_far (value ∷ values) =
    after_step (λ one. dictionaries_after (so_far ++ one ∷ []) values)
    (dictionary_or_refused value (code_and_path value))

-- The dictionaries that values of `--dictionary` give, in their order.
abbrev pub dictionaries_of : List (List ℕ) → Result (List (List ℕ × List ℕ)) RefusedArgument
dictionaries_of values = dictionaries_after [] values

-- The language of a value of `--lang`; it is empty if there is none. A value with `=` is refused.
abbrev pub language_or_refused : Option (List ℕ) → Result (List ℕ) RefusedArgument
language_or_refused None = Ok []
language_or_refused (Some value) = if is_some (position (λ b. b == 61) value)
    then Err (refused (codes "--lang") (Some value) CodeAlone) else Ok value

-- The language that options give to text for which a page names none: the last one counts.
abbrev pub language_given : List GivenOption → Result (List ℕ) RefusedArgument
language_given given = language_or_refused (last_value (codes "--lang") given)

-- The options with these dictionaries, by those that are given. The last of those of one name counts. The first that is
-- refused decides, in this order.
abbrev pub options_with : List (List ℕ × List ℕ) → List GivenOption → Result ParsedOptions RefusedArgument
options_with dictionaries given =
    after_step (λ language. after_step (λ adjustments. after_step (λ min_word. after_step (λ target. Ok (record {
      given = dictionaries;
      folder = last_value (codes "--dictionaries") given;
      language = language;
      adjustments = adjustments;
      mark = unwrap_or (last_value (codes "--mark") given) soft_hyphen;
      class = unwrap_or (last_value (codes "--class") given) (codes "donthyphenate");
      min_word = min_word;
      skip_capitals = is_given (codes "--skip-capitals") given;
      quiet = is_given (codes "--quiet") given;
      target = target;
    }))
    (target_of given))
    (number_given (codes "--min-word") 0 65535 0 given))
    (adjustments_of given))
    (language_given given)

-- The dictionaries that options give, each by a `--dictionary`.
abbrev pub dictionaries_given : List GivenOption → Result (List (List ℕ × List ℕ)) RefusedArgument
dictionaries_given given = dictionaries_of (values_of (codes "--dictionary") given)

-- The options by those that are given.
abbrev pub options_of : List GivenOption → Result ParsedOptions RefusedArgument
options_of given =
    after_step (λ dictionaries. options_with dictionaries given) (dictionaries_given given)

-- The arguments of options and the names of pages.
abbrev pub args_of : ParsedOptions → List (List ℕ) → Result ParsedArgs RefusedArgument
args_of options names =
    after_step (λ inputs. Ok (record { options = options; inputs = inputs })) (names_for options.target names)

-- Arguments that are read. Each operand names a page.
abbrev pub args_as_read : ReadArguments → Result ParsedArgs RefusedArgument
args_as_read read = after_step (λ options. args_of options read.operands) (options_of read.given)

-- The task of arguments: marks are put in, or soft hyphens are taken out.
pub data Task : Type 0 where
  Marks : ParsedArgs → Task
  Removes : ParsedRemoval → Task

-- The task of arguments that ask for this removal, or for none.
abbrev pub task_by : Option ParsedRemoval → ReadArguments → Result Task RefusedArgument
task_by (Some removal) read = Ok (Removes removal)
task_by None read = after_step (λ args. Ok (Marks args)) (args_as_read read)

-- The task of arguments that are read.
abbrev pub task_as_read : ReadArguments → Result Task RefusedArgument
task_as_read read = after_step (λ removal. task_by removal read) (removal_of Page read)

-- The task of all arguments, or the first that is refused.
abbrev pub parsed_args : List (Bor (List ℕ)) → Result Task RefusedArgument
parsed_args args = after_step task_as_read (read_arguments (options_in USAGE.now) (texts_now args))
