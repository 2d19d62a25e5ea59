-- How the program `hyphenate-explain` reads its arguments.
use Rattle.std.specs.Prelude.{ℕ, List, codes, fold, if◌then◌else◌, Result, Ok}
use Rattle.std.specs.Borrow.{Bor}
use Rattle.hyphenation_breaks.specs.Borrowed.{texts_now}
use Rattle.hyphenation_grammar.specs.Lines.{is_same}
use Rattle.command_line.specs.Adjustments.{Adjustments, adjustments_of}
use Rattle.command_line.specs.Options.{GivenOption, ReadArguments, RefusedArgument, after_step, named_dictionary, read_arguments}
use Rattle.command_line.specs.Usage.{options_in}
use Rattle.explanations.specs.declared.style.Style.{Style}
use Rattle.explanations.specs.declared.style.Style.TheVariants.{Picture, Lines, Svg}
use Rattle.explain_command.specs.declared.TheConstants.{USAGE}

-- Arguments: the style, the adjustments and the path or the language of a dictionary, and the words that are given.
pub record ParsedArgs : Type 0 where
  pub style : Style
  pub adjustments : Adjustments
  pub dictionary : List ℕ
  pub words : List (List ℕ)

-- The style that the option of a name asks for: a drawing for `--svg`, lines for `--plain`, else the one so far.
abbrev pub style_by : Style → List ℕ → Style
style_by so_far name = if is_same name (codes "--svg") then Svg else (if is_same name (codes "--plain") then Lines else so_far)

-- The style that options ask for. The last one that asks for one counts; without any it is pictures.
abbrev pub style_of : List GivenOption → Style
style_of given = fold (λ so_far one. style_by so_far one.name) Picture given

-- The arguments of a style and adjustments, and of a dictionary and the words beside it, unless these are refused.
abbrev pub args_of : Style → Adjustments → Result (List ℕ × List (List ℕ)) RefusedArgument
    → Result ParsedArgs RefusedArgument
args_of style adjustments named =
    after_step (λ found. Ok (record {
      style = style;
      adjustments = adjustments;
      dictionary = found.0;
      words = found.1;
    })) named

-- Arguments that are read.
abbrev pub args_as_read : ReadArguments → Result ParsedArgs RefusedArgument
args_as_read read =
    after_step (λ adjustments. args_of (style_of read.given) adjustments (named_dictionary read)) (adjustments_of read.given)

-- All arguments as they are parsed, or the first that is refused.
abbrev pub parsed_args : List (Bor (List ℕ)) → Result ParsedArgs RefusedArgument
parsed_args args = after_step args_as_read (read_arguments (options_in USAGE.now) (texts_now args))
