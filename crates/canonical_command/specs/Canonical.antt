-- The arguments, the output and the statuses of the program `hyphenate-canonical`.
use Rattle.std.specs.Prelude.{◌≡◌, ◌⊎◌, ℕ, Bool, true, List, [], ◌∷◌, codes, is_some, Option, Some, None, IfSome, Result, Ok, Err, ⊤}
use Rattle.std.specs.Borrow.{Bor}
use Rattle.std.specs.String.{string_bytes}
use Rattle.any_dictionary.specs.Dictionaries.{canonical_text, contents_of, refusal_by_head}
use Rattle.any_dictionary.specs.declared.AnyDictionary.{AnyDictionary}
use Rattle.command_line.specs.About.{help_or_version}
use Rattle.command_line.specs.Dictionaries.{KnownFiles, IsOfArgument, IsFailureOf}
use Rattle.command_line.specs.Endings.{End, Done, Refuses, Fails, IsRefusal}
use Rattle.command_line.specs.Options.{RefusedArgument, refused, after_step, last_value, read_arguments}
use Rattle.command_line.specs.Steps.{EndsIn}
use Rattle.command_line.specs.Usage.{options_in}
use Rattle.command_line.specs.declared.TheConstants.{VERSION}
use Rattle.command_line.specs.declared.failure.Failure.{Failure}
use Rattle.command_line.specs.declared.failure.Failure.TheVariants as failed
use Rattle.command_line.specs.declared.options.Expected.TheVariants.{NoMore}
use Rattle.hyphenation_breaks.specs.Borrowed.{texts_now}
use Rattle.hyphenation_grammar.specs.declared.Error.TheVariants.{Deserialization}
use Rattle.hyphenation_load.specs.Load.{AppendsTo}
use Rattle.canonical_command.specs.declared.TheConstants.{NAME, USAGE}

-- ---- arguments

-- The text that the arguments ask for by `--help` or `--version`, if they do.
abbrev pub asked_text : List (Bor (List ℕ)) → Option (List ℕ)
asked_text args = help_or_version NAME.now VERSION.now USAGE.now args

-- The path or the language that is named: a language stands for the first operand, and there may be no more. None means
-- standard input.
abbrev pub named_by : Option (List ℕ) → List (List ℕ) → Result (Option (List ℕ)) RefusedArgument
named_by language [] = Ok language
named_by (Some language) (other ∷ rest) = Err (refused other None NoMore)
named_by None (dictionary ∷ []) = Ok (Some dictionary)
named_by None (dictionary ∷ other ∷ rest) = Err (refused other None NoMore)

-- The path or the language that all arguments name, or the first argument that is refused.
abbrev pub parsed_args : List (Bor (List ℕ)) → Result (Option (List ℕ)) RefusedArgument
parsed_args args = after_step (λ read. named_by (last_value (codes "--lang") read.given) read.operands) (read_arguments (options_in USAGE.now) (texts_now args))

-- ---- dictionaries

-- A dictionary is that of standard input: if its bytes are known, they are accepted and give the dictionary.
abbrev pub IsOfInput : Option (List ℕ) → AnyDictionary → Type 0
IsOfInput left dictionary =
    IfSome left (λ bytes. (refusal_by_head bytes ≡ None) × (dictionary ≡ contents_of bytes))

-- A dictionary is that of the path or the language, or of standard input.
abbrev pub IsAsked : Option (List ℕ) → KnownFiles → List (Bor (List ℕ)) → Option (List ℕ) → AnyDictionary → Type 0
IsAsked None bytes_of folders left dictionary = IsOfInput left dictionary
IsAsked (Some argument) bytes_of folders left dictionary = IsOfArgument bytes_of (texts_now folders) argument dictionary

-- ---- failures

-- Standard input fails so: its text is refused for its first faulty line, or it can't be read, or memory was refused.
abbrev pub IsFailureOfInput : Option (List ℕ) → Failure → Type 0
IsFailureOfInput left (failed.Dictionary path (Deserialization line cause)) = (string_bytes path ≡ codes "standard input")
    × IfSome left (λ bytes. refusal_by_head bytes ≡ Some (line, cause))
IsFailureOfInput left (failed.Reading input) = string_bytes input ≡ codes "standard input"
IsFailureOfInput left failed.Memory = ⊤
IsFailureOfInput left _ = ⊥

-- The loading of the dictionary fails so.
abbrev pub IsFailureOfLoading : Option (List ℕ) → KnownFiles → List (Bor (List ℕ)) → Option (List ℕ) → Failure → Type 0
IsFailureOfLoading None bytes_of folders left failure = IsFailureOfInput left failure
IsFailureOfLoading (Some argument) bytes_of folders left failure = IsFailureOf bytes_of (texts_now folders) argument failure

-- The program fails so: in loading the dictionary, or after that the output can't be written.
abbrev pub IsFailureFor : Option (List ℕ) → KnownFiles → List (Bor (List ℕ)) → Option (List ℕ) → Failure → Type 0
IsFailureFor named bytes_of folders left failed.Output =
    (dictionary : AnyDictionary) × IsAsked named bytes_of folders left dictionary
IsFailureFor named bytes_of folders left failed.Memory = ⊤
IsFailureFor named bytes_of folders left failure = IsFailureOfLoading named bytes_of folders left failure

-- ---- how the program ends

-- The canonical text of the dictionary was appended to an output.
abbrev pub Writes : {W : Type 0} → Option (List ℕ) → KnownFiles → List (Bor (List ℕ)) → Option (List ℕ)
    → (W → Option (List ℕ)) → W → W → Type 0
Writes named bytes_of folders left contents old new = (dictionary : AnyDictionary)
    × IsAsked named bytes_of folders left dictionary × AppendsTo contents old new (canonical_text dictionary)

-- How the program ends for its arguments. If one is refused, it says which, or memory was refused. Else it is done, and the
-- text was written, or it fails. After a failure the output is as it was, unless it is the output that failed.
abbrev pub EndsFor : {W : Type 0} → Result (Option (List ℕ)) RefusedArgument → KnownFiles → List (Bor (List ℕ)) → Option (List ℕ)
    → (W → Option (List ℕ)) → W → W → End → Type 0
EndsFor (Err refused) bytes_of folders left contents old new end = IsRefusal refused end
EndsFor (Ok named) bytes_of folders left contents old new (Done notes) =
    (notes ≡ []) × Writes named bytes_of folders left contents old new
EndsFor (Ok named) bytes_of folders left contents old new (Fails failure) =
    IsFailureFor named bytes_of folders left failure × ((failure ≡ failed.Output) ⊎ (new ≡ old))
EndsFor (Ok named) bytes_of folders left contents old new (Refuses refused) = ⊥

-- If no help was asked for, the program ends so for its arguments.
abbrev pub EndsUnlessAsked : {W : Type 0} → List (Bor (List ℕ)) → KnownFiles → List (Bor (List ℕ)) → Option (List ℕ)
    → (End → Type 0) → (W → Option (List ℕ)) → W → W → Type 0
EndsUnlessAsked args bytes_of folders left EndsSo contents old new =
    asked_text args ≡ None → EndsIn EndsSo (EndsFor (parsed_args args) bytes_of folders left contents old new)

-- Arguments name a dictionary, or one of them is refused. So standard input is not asked for.
abbrev pub asks_no_input : Result (Option (List ℕ)) RefusedArgument → Bool
asks_no_input (Ok named) = is_some named
asks_no_input (Err refused) = true
