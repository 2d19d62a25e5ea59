-- Where the results of texts go, and the names of the texts, by the arguments of a program.
use Rattle.std.specs.Prelude.{ℕ, Bool, ◌||◌, if◌then◌else◌, List, [], ◌∷◌, codes, Option, Some, None, Result, Ok, Err}
use Rattle.std.specs.List.{list_any}
use Rattle.std.specs.Str.{bytes_eq}
use Rattle.command_line.specs.Inputs.{is_standard_input}
use Rattle.command_line.specs.Options.{GivenOption, RefusedArgument, refused, is_given, last_value}
use Rattle.command_line.specs.declared.options.Expected.TheVariants.{NoMore, Operand}

-- Where results go: to the output, to the file at a path, or each to the file from which its text came.
pub data Target : Type 0 where
  ToOutput : Target
  ToFile : List ℕ → Target
  InPlace : Target

-- The path of an output is a name of standard output: `-`, or the path that the system has for it.
abbrev pub is_standard_output : List ℕ → Bool
is_standard_output path = bytes_eq path (codes "-") || bytes_eq path (codes "/dev/stdout")

-- Where the results go that an output of this path gets.
abbrev pub target_at : List ℕ → Target
target_at path = if is_standard_output path then ToOutput else ToFile path

-- Where results go, if there is the path of an output, or not, and each text is replaced, or not. Both are refused.
abbrev pub target_by : Option (List ℕ) → Bool → Result Target RefusedArgument
target_by (Some path) in_place =
    if in_place then Err (refused (codes "--in-place") None NoMore) else Ok (target_at path)
target_by None in_place = if in_place then Ok InPlace else Ok ToOutput

-- Where results go, by the options that are given.
abbrev pub target_of : List GivenOption → Result Target RefusedArgument
target_of given = target_by (last_value (codes "--output") given) (is_given (codes "--in-place") given)

-- The names of texts: standard input, if none is named.
abbrev pub inputs_of : List (List ℕ) → List (List ℕ)
inputs_of [] = codes "-" ∷ []
inputs_of (name ∷ names) = name ∷ names

-- The names of texts that are replaced: at least one, and none is standard input.
abbrev pub replaced_of : List (List ℕ) → Result (List (List ℕ)) RefusedArgument
replaced_of [] = Err (refused (codes "FILE") None Operand)
replaced_of (name ∷ names) =
    if list_any is_standard_input (name ∷ names) then Err (refused (codes "-") None NoMore)
    else Ok (name ∷ names)

-- The names of texts whose results go there.
abbrev pub names_for : Target → List (List ℕ) → Result (List (List ℕ)) RefusedArgument
names_for ToOutput names = Ok (inputs_of names)
names_for (ToFile path) names = Ok (inputs_of names)
names_for InPlace names = replaced_of names
