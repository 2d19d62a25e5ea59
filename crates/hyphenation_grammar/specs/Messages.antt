-- The messages of causes and of errors.
use Rattle.std.specs.Prelude.{ℕ, List, ◌++◌, codes, Option, Some, None}
use Rattle.std.specs.Fmt.{decimal}
use Rattle.hyphenation_grammar.specs.declared.Cause.{Cause}
use Rattle.hyphenation_grammar.specs.declared.Cause.TheVariants.{NotUtf8, Header, Language, Minima, UnknownLine, Token, Value, Pattern, NoLetters, Number, Place, Change, RepeatedPattern, RepeatedException}
use Rattle.hyphenation_grammar.specs.declared.Error.{Error}
use Rattle.hyphenation_grammar.specs.declared.Error.TheVariants.{Deserialization, IO, LanguageMismatch, Memory}

-- The message of each cause.
abbrev pub message : Cause → List ℕ
message NotUtf8 = codes "not UTF-8"
message Header = codes "not the head of this kind of dictionary"
message Language = codes "not a language line"
message Minima = codes "not a minima line"
message UnknownLine = codes "unknown line"
message Token = codes "bad token"
message Value = codes "bad value"
message Pattern = codes "two values in one place"
message NoLetters = codes "a pattern without letters"
message Number = codes "bad number"
message Place = codes "bad place"
message Change = codes "bad change"
message RepeatedPattern = codes "repeated pattern"
message RepeatedException = codes "repeated exception"

-- The message of an error. An I/O error has its own.
abbrev pub error_text : Error → Option (List ℕ)
error_text (Deserialization line cause) = Some (codes "line " ++ decimal line ++ codes ": " ++ message cause)
error_text (IO error) = None
error_text (LanguageMismatch expected found) =
    Some (codes "Language mismatch: attempted to load a dictionary for `" ++ (expected
    ++ (codes "`, but found\na dictionary for `" ++ (found ++ codes "` instead."))))
error_text (Memory error) = Some (codes "no memory")
