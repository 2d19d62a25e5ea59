-- Laws of reading arguments.
use Rattle.std.specs.Prelude.{◌≡◌, ℕ, ◌==◌, ◌&&◌, ◌||◌, Bool, not, true, false, List, [], ◌∷◌, ◌++◌, codes, is_none, Ok}
use Rattle.std.specs.List.{filter, list_all}
use Rattle.std.specs.Option.{option_map_or}
use Rattle.hyphenation_grammar.specs.Lines.{is_same}
use Rattle.command_line.specs.Options.{ReadArguments, Any, is_operand, form_of, name_in, value_in, read_after, read_arguments}
use Rattle.command_line.specs.Usage.{OptionForm}

-- A name that an option can have: it begins with `-`, has no `=`, and is neither `-` nor `--`.
abbrev pub is_option_name : List ℕ → Bool
is_option_name name = not (is_operand name) && (not (is_same name (codes "--")) && list_all (λ b. not (b == 61)) name)

-- An option of that name takes a value.
abbrev pub takes_value : List OptionForm → List ℕ → Bool
takes_value forms name = option_map_or (λ form. form.takes_value) (form_of forms name) false

-- A text is an option that needs no further argument: it has its value, or takes none.
abbrev pub stands_alone : List OptionForm → List ℕ → Bool
stands_alone forms text =
    not (is_operand text) && (not (is_same text (codes "--")) && not (takes_value forms (name_in text) && is_none (value_in text)))

-- A value may be the next argument, or follow an equals sign.
abbrev pub ValuesJoin : Type 0
ValuesJoin = (forms : List OptionForm) (so_far : ReadArguments) (name value : List ℕ) (rest : List (List ℕ))
    → is_option_name name ≡ true → takes_value forms name ≡ true
    → read_after forms so_far Any (name ∷ value ∷ rest) ≡ read_after forms so_far Any ((name ++ (codes "=" ++ value)) ∷ rest)

-- After `--` each argument is an operand.
abbrev pub OperandsFollowDashes : Type 0
OperandsFollowDashes = (forms : List OptionForm) (so_far : ReadArguments) (rest : List (List ℕ))
    → read_after forms so_far Any (codes "--" ∷ rest) ≡ Ok (record so_far { operands = so_far.operands ++ rest })

-- Arguments that are operands by themselves are read as operands, whatever options there are.
abbrev pub OperandsAreRead : Type 0
OperandsAreRead = (forms : List OptionForm) (args : List (List ℕ)) → list_all is_operand args ≡ true
    → read_arguments forms args ≡ Ok (record { given = []; operands = args })

-- An option may be before an operand, or after it.
abbrev pub OptionsMove : Type 0
OptionsMove = (forms : List OptionForm) (so_far : ReadArguments) (operand option : List ℕ) (rest : List (List ℕ))
    → is_operand operand ≡ true → stands_alone forms option ≡ true
    → read_after forms so_far Any (operand ∷ option ∷ rest) ≡ read_after forms so_far Any (option ∷ operand ∷ rest)

-- Among options without values each operand is kept, in order.
abbrev pub OperandsAreKept : Type 0
OperandsAreKept = (forms : List OptionForm) (args : List (List ℕ)) (read : ReadArguments)
    → list_all (λ text. is_operand text || stands_alone forms text) args ≡ true
    → read_arguments forms args ≡ Ok read → read.operands ≡ filter is_operand args
