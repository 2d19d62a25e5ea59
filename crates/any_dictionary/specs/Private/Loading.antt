-- Which result a dictionary gives where a language is asked for.
use Rattle.std.specs.Prelude.{◌≡◌, ◌≢◌, ℕ, List, Result, Ok, Err}
use Rattle.hyphenation_grammar.specs.declared.Error.{Error}
use Rattle.hyphenation_grammar.specs.declared.Error.TheVariants.{LanguageMismatch}
use Rattle.any_dictionary.specs.declared.AnyDictionary.{AnyDictionary}
use Rattle.any_dictionary.specs.Dictionaries.{language_by}

-- The dictionary, exactly where its language is the asked one; else the asked and the found code.
abbrev pub ChecksLanguage : List ℕ → AnyDictionary → Result AnyDictionary Error → Type 0
ChecksLanguage asked dictionary (Ok given) = (given ≡ dictionary) × (language_by dictionary ≡ asked)
ChecksLanguage asked dictionary (Err (LanguageMismatch expected found)) =
    (expected ≡ asked) × (found ≡ language_by dictionary) × (found ≢ asked)
ChecksLanguage asked dictionary (Err _) = ⊥
