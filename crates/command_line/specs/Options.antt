-- How programs read their arguments: options with their values, and operands.
use Rattle.std.specs.Prelude.{ℕ, ◌+◌, ◌==◌, ◌&&◌, ◌||◌, nat_le, not, Bool, if◌then◌else◌, List, [], ◌∷◌, ◌++◌, codes, take, drop, position, Option, Some, None, option_map, option_and_then, Result, Ok, Err}
use Rattle.std.specs.Fmt.{decimal}
use Rattle.std.specs.List.{find, filter_map, last_or, list_any}
use Rattle.std.specs.Option.{option_map_or}
use Rattle.hyphenation_grammar.specs.Lines.{is_same, starts_with, number_of}
use Rattle.command_line.specs.Usage.{OptionForm}
use Rattle.command_line.specs.declared.options.Expected.{Expected}
use Rattle.command_line.specs.declared.options.Expected.TheVariants.{KnownOption, Lang, Value, NoValue, Number, Code, CodeAlone, CodeAndPath, OneOf, EvenLines, Operand, NoMore}

-- An option that is given: its name with its dashes, and its value if it has one.
pub record GivenOption : Type 0 where
  pub name : List ℕ
  pub value : Option (List ℕ)

-- Arguments as read: the options and the operands, each in their order.
pub record ReadArguments : Type 0 where
  pub given : List GivenOption
  pub operands : List (List ℕ)

-- An argument that is refused: an operand or the name of an option; the value that came with it, if one did; what was
-- expected.
pub record RefusedArgument : Type 0 where
  pub argument : List ℕ
  pub value : Option (List ℕ)
  pub expected : Expected

-- Which arguments may come next: any, the value of the option of that name, or only operands.
pub data Next : Type 0 where
  Any : Next
  ValueOf : List ℕ → Next
  OperandsAlone : Next

-- No argument.
abbrev pub no_arguments : ReadArguments
no_arguments = record { given = []; operands = [] }

-- Arguments with one more option.
abbrev pub with_given : ReadArguments → List ℕ → Option (List ℕ) → ReadArguments
with_given so_far name value = record so_far { given = so_far.given ++ record { name = name; value = value } ∷ [] }

-- Arguments with one more operand.
abbrev pub with_operand : ReadArguments → List ℕ → ReadArguments
with_operand so_far operand = record so_far { operands = so_far.operands ++ operand ∷ [] }

-- A text is an operand, and no option: it does not begin with `-`, or it is `-` itself.
abbrev pub is_operand : List ℕ → Bool
is_operand text = not (starts_with (codes "-") text) || is_same text (codes "-")

-- The name in the text of an option: all before its first `=`.
abbrev pub name_in : List ℕ → List ℕ
name_in text = option_map_or (λ at. take at text) (position (λ b. b == 61) text) text

-- The value in the text of an option: all after its first `=`, if it has one.
abbrev pub value_in : List ℕ → Option (List ℕ)
value_in text = option_map (λ at. drop (at + 1) text) (position (λ b. b == 61) text)

-- The name of the option that a name or a short form means. A short form means the same option in all programs.
unfoldable pub long_name : List ℕ → List ℕ
long_name name =
    if is_same name (codes "-i") then codes "--in-place"
    else (if is_same name (codes "-l") then codes "--lang"
    else (if is_same name (codes "-o") then codes "--output" else name))

-- The first form of that name.
abbrev pub form_named : List OptionForm → List ℕ → Option OptionForm
form_named forms name = find (λ form. is_same form.name name) forms

-- The first form of the option that a name or a short form means.
abbrev pub form_of : List OptionForm → List ℕ → Option OptionForm
form_of forms name = form_named forms (long_name name)

-- The refusal of an option or operand.
abbrev pub refused : List ℕ → Option (List ℕ) → Expected → RefusedArgument
refused argument value expected = record { argument = argument; value = value; expected = expected }

-- Arguments with an option of that form, and what may come next. A value may be in the same argument, else it is the next one.
abbrev pub with_option : ReadArguments → OptionForm → Option (List ℕ) → Result (ReadArguments × Next) RefusedArgument
with_option so_far form (Some value) =
    if form.takes_value then Ok (with_given so_far form.name (Some value), Any)
    else Err (refused form.name (Some value) NoValue)
with_option so_far form None =
    if form.takes_value then Ok (so_far, ValueOf form.name)
    else Ok (with_given so_far form.name None, Any)

-- The expectation in place of a name that no option has. `--language` is `--lang` by another name.
abbrev pub expected_for : List ℕ → Expected
expected_for name = if is_same name (codes "--language") then Lang else KnownOption

-- Arguments with an option, if there is a form of its name.
abbrev pub with_option_if_known : ReadArguments → Option OptionForm → List ℕ → Result (ReadArguments × Next) RefusedArgument
with_option_if_known so_far (Some form) text = with_option so_far form (value_in text)
with_option_if_known so_far None text = Err (refused (name_in text) None (expected_for (name_in text)))

-- Arguments with one more, and what may come next. After `--` all are operands.
abbrev pub with_argument : List OptionForm → ReadArguments → Next → List ℕ → Result (ReadArguments × Next) RefusedArgument
with_argument forms so_far OperandsAlone text = Ok (with_operand so_far text, OperandsAlone)
with_argument forms so_far (ValueOf name) text = Ok (with_given so_far name (Some text), Any)
with_argument forms so_far Any text =
    if is_same text (codes "--") then Ok (so_far, OperandsAlone)
    else (if is_operand text then Ok (with_operand so_far text, Any)
    else with_option_if_known so_far (form_of forms (name_in text)) text)

-- Arguments to the end. A value may not be missing there.
abbrev pub ended : ReadArguments → Next → Result ReadArguments RefusedArgument
ended so_far (ValueOf name) = Err (refused name None Value)
ended so_far Any = Ok so_far
ended so_far OperandsAlone = Ok so_far

-- A result after a step, which may have refused an argument.
abbrev pub after_step : {X Y : Type 0} → (X → Result Y RefusedArgument) → Result X RefusedArgument → Result Y RefusedArgument
after_step next (Ok x) = next x
after_step next (Err e) = Err e

-- Arguments after some others. The first that is refused decides.
abbrev pub read_after : List OptionForm → ReadArguments → Next → List (List ℕ) → Result ReadArguments RefusedArgument
read_after forms so_far next [] = ended so_far next
read_after forms so_far next (text ∷ rest) =
    after_step (λ step. read_after forms step.0 step.1 rest) (with_argument forms so_far next text)

-- All arguments of a program, by the forms of its options.
abbrev pub read_arguments : List OptionForm → List (List ℕ) → Result ReadArguments RefusedArgument
read_arguments forms args = read_after forms no_arguments Any args

-- An option of that name is given.
abbrev pub is_given : List ℕ → List GivenOption → Bool
is_given name given = list_any (λ one. is_same one.name name) given

-- The values of the options of that name, in their order.
abbrev pub values_of : List ℕ → List GivenOption → List (List ℕ)
values_of name given = filter_map (λ one. if is_same one.name name then one.value else None) given

-- The value of the last option of that name; none if none is given. So the last one counts.
abbrev pub last_value : List ℕ → List GivenOption → Option (List ℕ)
last_value name given = last_or None (values_of name given)

-- The dictionary of a language or of operands, and the operands beside it: a language stands for the first operand.
abbrev pub dictionary_and_rest : Option (List ℕ) → List (List ℕ) → Result (List ℕ × List (List ℕ)) RefusedArgument
dictionary_and_rest (Some language) operands = Ok (language, operands)
dictionary_and_rest None [] = Err (refused (codes "DICTIONARY") None Operand)
dictionary_and_rest None (dictionary ∷ rest) = Ok (dictionary, rest)

-- The dictionary that arguments name, and the operands beside it: the value of the last `--lang`, or else the first operand.
abbrev pub named_dictionary : ReadArguments → Result (List ℕ × List (List ℕ)) RefusedArgument
named_dictionary read = dictionary_and_rest (last_value (codes "--lang") read.given) read.operands

-- The number from a least one to a greatest one that a text spells; none if it spells no number between them.
abbrev pub number_within : ℕ → ℕ → List ℕ → Option ℕ
number_within least greatest text =
    option_and_then (λ n. if nat_le least n && nat_le n greatest then Some n else None) (number_of text)

-- A number, or a refusal if there is none.
abbrev pub number_or_refused : RefusedArgument → Option ℕ → Result ℕ RefusedArgument
number_or_refused refusal (Some n) = Ok n
number_or_refused refusal None = Err refusal

-- The number within those bounds that a value of an option spells, or another number if there is no value.
abbrev pub number_of_value : List ℕ → ℕ → ℕ → ℕ → Option (List ℕ) → Result ℕ RefusedArgument
number_of_value name least greatest otherwise None = Ok otherwise
number_of_value name least greatest otherwise (Some text) =
    number_or_refused (refused name (Some text) (Number least greatest)) (number_within least greatest text)

-- The number that the last option of that name has as its value, or another number if none is given.
abbrev pub number_given : List ℕ → ℕ → ℕ → ℕ → List GivenOption → Result ℕ RefusedArgument
number_given name least greatest otherwise given =
    number_of_value name least greatest otherwise (last_value name given)

-- The words that say what was expected in place of an argument.
abbrev pub expectation : Expected → List ℕ
expectation KnownOption = codes "no such option"
expectation Lang = codes "no such option: it is --lang"
expectation Value = codes "a value is missing"
expectation NoValue = codes "takes no value"
expectation (Number least greatest) =
    codes "not a number from " ++ (decimal least ++ (codes " to " ++ decimal greatest))
expectation Code = codes "not the code of a language"
expectation CodeAlone = codes "not the code of a language: --dictionary CODE=PATH gives a path"
expectation CodeAndPath = codes "not of the form CODE=PATH"
expectation (OneOf names) = codes "not one of " ++ names.now
expectation EvenLines = codes "only with --even"
expectation Operand = codes "is missing"
expectation NoMore = codes "one argument too many"

-- An argument with its value, as `--width=4o`.
abbrev pub argument_text : List ℕ → Option (List ℕ) → List ℕ
argument_text argument None = argument
argument_text argument (Some value) = argument ++ (codes "=" ++ value)

-- Why an argument is refused, as `--width=4o: not a number from 1 to 65535`.
abbrev pub refusal_text : RefusedArgument → List ℕ
refusal_text one = argument_text one.argument one.value ++ (codes ": " ++ expectation one.expected)

-- The message of a program that refuses an argument: a line that says why, and one that points to `--help`.
abbrev pub refusal_message : List ℕ → RefusedArgument → List ℕ
refusal_message name one =
    name ++ (codes ": " ++ (refusal_text one ++ (codes "\nTry '" ++ (name ++ codes " --help'.\n"))))
