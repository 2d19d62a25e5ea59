-- The meaning of a refusal.
use Rattle.std.specs.Prelude.{◌≡◌, ℕ, Option, Some}
use Rattle.hyphenation_grammar.specs.declared.Cause.{Cause}
use Rattle.hyphenation_reader.specs.declared.reader.Refusal.{Refusal}
use Rattle.hyphenation_reader.specs.declared.reader.Refusal.TheVariants.{Memory, Fault}

-- The refusal says that memory ran out, which promises nothing of the text; or it names exactly this fault.
abbrev pub IsRefusal : Refusal → Option (ℕ × Cause) → Type 0
IsRefusal Memory fault = Unit {0}
IsRefusal (Fault line cause) fault = fault ≡ Some (line, cause)
