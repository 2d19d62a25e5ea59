-- A standard dictionary with one more exception.
use Rattle.std.specs.Prelude.{ℕ, List}
use Rattle.std.specs.FinMap as finite
use Rattle.hyphenation_breaks.specs.Dictionary.{Contents}

-- The dictionary with those places listed for a word, in place of any that were.
abbrev pub with_exception : Contents (Unit {0}) ℕ → List ℕ → List ℕ → Contents (Unit {0}) ℕ
with_exception dictionary word places =
    record dictionary { exceptions = finite.insert dictionary.exceptions word places }
