-- Which results of loading a refused text, a language and an error of reading give.
use Rattle.std.specs.Prelude.{◌≡◌, ◌≢◌, ℕ, List, Result, Ok, Err, alloc_error}
use Rattle.hyphenation_breaks.specs.Dictionary.{Contents}
use Rattle.hyphenation_grammar.specs.declared.Error.{Error}
use Rattle.hyphenation_grammar.specs.declared.Error.TheVariants.{Deserialization, LanguageMismatch, Memory}
use Rattle.hyphenation_reader.specs.declared.reader.Refusal.{Refusal}
use Rattle.hyphenation_reader.specs.declared.reader.Refusal.TheVariants.{Memory as NoMemory, Fault}

-- The dictionary, exactly where its language is the asked one; else the asked and the found code.
abbrev pub ChecksLanguage : {C B : Type 0} → List ℕ → Contents C B → Result (Contents C B) Error → Type 0
ChecksLanguage asked dictionary (Ok given) = (given ≡ dictionary) × (dictionary.language ≡ asked)
ChecksLanguage asked dictionary (Err (LanguageMismatch expected found)) =
    (expected ≡ asked) × (found ≡ dictionary.language) × (found ≢ asked)
ChecksLanguage asked dictionary (Err _) = ⊥

-- The error of loading that the refusal of a text gives.
abbrev pub error_of : Refusal → Error
error_of NoMemory = Memory alloc_error
error_of (Fault line cause) = Deserialization line cause
