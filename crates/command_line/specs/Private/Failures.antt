-- The failures that private functions make.
use Rattle.std.specs.Prelude.{◌≡◌, ℕ, List, ⊤}
use Rattle.std.specs.String.{string_bytes}
use Rattle.std.specs.IoError.{error_kind}
use Rattle.std.specs.declared.io.ErrorKind.TheVariants.{NotFound}
use Rattle.hyphenation_grammar.specs.declared.Error.{Error}
use Rattle.hyphenation_grammar.specs.declared.Error.TheVariants.{IO, LanguageMismatch}
use Rattle.command_line.specs.Inputs.{IsNotUtf8From, shown_name}
use Rattle.command_line.specs.declared.failure.Failure.{Failure}
use Rattle.command_line.specs.declared.failure.Failure.TheVariants as failed
use Rattle.command_line.specs.declared.failure.InputRefusal.TheVariants.{NotUtf8}

-- The dictionary at this path is refused for that cause, or memory was.
abbrev pub IsRefusalOf : List ℕ → Error → Failure → Type 0
IsRefusalOf path cause (failed.Dictionary named given) = (string_bytes named ≡ path) × (given ≡ cause)
IsRefusalOf path cause failed.Memory = ⊤
IsRefusalOf path cause _ = ⊥

-- The cause is that a dictionary is of another language than the one asked for.
abbrev pub IsMismatch : Error → Type 0
IsMismatch (LanguageMismatch expected found) = ⊤
IsMismatch _ = ⊥

-- The cause is that there is no such file.
abbrev pub IsNotFound : Error → Type 0
IsNotFound (IO e) = error_kind e ≡ NotFound
IsNotFound _ = ⊥

-- There is no dictionary of this language, or memory was refused.
abbrev pub IsMissing : List ℕ → Failure → Type 0
IsMissing named (failed.NoDictionary language) = string_bytes language ≡ named
IsMissing named failed.Memory = ⊤
IsMissing named _ = ⊥

-- The input of this name, which has these bytes, is not UTF-8 from this place on, or memory was refused.
abbrev pub IsRefusedText : List ℕ → List ℕ → Failure → Type 0
IsRefusedText name bytes (failed.Refused input (NotUtf8 valid line)) =
    (string_bytes input ≡ shown_name name) × IsNotUtf8From bytes valid line
IsRefusedText name bytes failed.Memory = ⊤
IsRefusedText name bytes _ = ⊥
