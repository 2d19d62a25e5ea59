-- The texts of inputs: of standard input, and of files.
use Rattle.std.specs.Prelude.{◌≡◌, ℕ, ◌+◌, ◌==◌, Bool, List, [], ◌∷◌, codes, if◌then◌else◌, count_by, take, IsUtf8, Option, None, IfSome, ⊤}
use Rattle.std.specs.Str.{IsValidUpTo}
use Rattle.std.specs.String.{string_bytes}
use Rattle.hyphenation_breaks.specs.Ascii.{line_feed}
use Rattle.hyphenation_grammar.specs.Lines.{is_same}
use Rattle.named_files.specs.Files.{known_bytes}
use Rattle.command_line.specs.Dictionaries.{KnownFiles}
use Rattle.command_line.specs.declared.failure.Failure.{Failure}
use Rattle.command_line.specs.declared.failure.Failure.TheVariants as failed
use Rattle.command_line.specs.declared.failure.InputRefusal.TheVariants.{NotUtf8}

-- The name is that of standard input.
abbrev pub is_standard_input : List ℕ → Bool
is_standard_input name = is_same name (codes "-")

-- The bytes of an input, if they are known: those that standard input has left, or those of the file.
abbrev pub input_bytes : KnownFiles → Option (List ℕ) → List ℕ → Option (List ℕ)
input_bytes bytes_of left name = if is_standard_input name then left else known_bytes (bytes_of name)

-- An input has this text: its bytes, if they are known, and these are UTF-8.
abbrev pub IsTextOf : KnownFiles → Option (List ℕ) → List ℕ → List ℕ → Type 0
IsTextOf bytes_of left name text = IsUtf8 text × IfSome (input_bytes bytes_of left name) (λ known. text ≡ known)

-- The texts are those of inputs, in their order. Standard input is read to its end where it is named first; of what it has
-- after that nothing is said.
abbrev pub AreTextsOf : KnownFiles → Option (List ℕ) → List (List ℕ) → List (List ℕ) → Type 0
AreTextsOf bytes_of left [] [] = ⊤
AreTextsOf bytes_of left (name ∷ names) (text ∷ texts) = IsTextOf bytes_of left name text
    × AreTextsOf bytes_of (if is_standard_input name then None else left) names texts
AreTextsOf bytes_of left _ _ = ⊥

-- The name of an input as messages have it.
abbrev pub shown_name : List ℕ → List ℕ
shown_name name = if is_standard_input name then codes "standard input" else name

-- The input of this name can't be read, or memory was refused.
abbrev pub IsReadingOf : List ℕ → Failure → Type 0
IsReadingOf name (failed.Reading input) = string_bytes input ≡ shown_name name
IsReadingOf name failed.Memory = ⊤
IsReadingOf name _ = ⊥

-- Bytes are UTF-8 up to this place, and not beyond, and it is in the line of this number.
abbrev pub IsNotUtf8From : List ℕ → ℕ → ℕ → Type 0
IsNotUtf8From bytes valid line = (IsUtf8 bytes → ⊥) × IsValidUpTo bytes valid
    × (line ≡ count_by (λ byte. byte == line_feed) (take valid bytes) + 1)

-- The failure of an input: it can't be read, or it is not UTF-8 from this place on.
abbrev pub IsFailureOfInput : KnownFiles → Option (List ℕ) → List ℕ → Failure → Type 0
IsFailureOfInput bytes_of left name (failed.Refused input (NotUtf8 valid line)) = (string_bytes input ≡ shown_name name)
    × IfSome (input_bytes bytes_of left name) (λ known. IsNotUtf8From known valid line)
IsFailureOfInput bytes_of left name (failed.Reading input) = string_bytes input ≡ shown_name name
IsFailureOfInput bytes_of left name failed.Memory = ⊤
IsFailureOfInput bytes_of left name _ = ⊥
