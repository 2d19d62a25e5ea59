-- The first five tests of a line, those before `Token`.
use Rattle.std.specs.Prelude.{ℕ, List, [], ◌∷◌, Option, Some, None, find, not, if◌then◌else◌}
use Rattle.std.specs.Str.{is_utf8}
use Rattle.hyphenation_grammar.specs.declared.form.Form.{Form}
use Rattle.hyphenation_grammar.specs.declared.Cause.{Cause}
use Rattle.hyphenation_grammar.specs.declared.Cause.TheVariants.{NotUtf8, Header, Language, Minima, UnknownLine}
use Rattle.hyphenation_grammar.specs.Judging.{fails, is_known}

-- The first of the five tests before `Token` that a line fails.
abbrev pub cause_before_token : Form → ℕ → List ℕ → Option Cause
cause_before_token form number line = find (fails form number line) (NotUtf8 ∷ Header ∷ Language ∷ Minima ∷ UnknownLine ∷ [])

-- The first of the two among them that a line after the third can fail.
abbrev pub early_cause : List ℕ → Option Cause
early_cause line =
    if not (is_utf8 line) then Some NotUtf8 else (if not (is_known line) then Some UnknownLine else None)
