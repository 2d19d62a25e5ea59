-- The failures that errors of loading become.
use Rattle.std.specs.Prelude.{◌≡◌, codes, ⊤}
use Rattle.std.specs.String.{string_bytes}
use Rattle.hyphenation_grammar.specs.declared.Error.{Error}
use Rattle.hyphenation_grammar.specs.declared.Error.TheVariants.{Deserialization, IO, LanguageMismatch, Memory}
use Rattle.command_line.specs.declared.failure.Failure.{Failure}
use Rattle.command_line.specs.declared.failure.Failure.TheVariants as failed

-- Standard input fails so by this error of loading: it can't be read after an error of I/O, and is refused for any other. Memory
-- may be refused for the message of either.
abbrev pub IsRefusalOf : Error → Failure → Type 0
IsRefusalOf (Memory e) failure = failure ≡ failed.Memory
IsRefusalOf (IO e) (failed.Reading input) = string_bytes input ≡ codes "standard input"
IsRefusalOf (Deserialization line why) (failed.Dictionary path cause) =
    (string_bytes path ≡ codes "standard input") × (cause ≡ Deserialization line why)
IsRefusalOf (LanguageMismatch expected found) (failed.Dictionary path cause) =
    (string_bytes path ≡ codes "standard input") × (cause ≡ LanguageMismatch expected found)
IsRefusalOf cause failed.Memory = ⊤
IsRefusalOf cause _ = ⊥
