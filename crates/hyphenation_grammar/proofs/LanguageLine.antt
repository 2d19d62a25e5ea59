-- The language of line 2.
use Rattle.std.proofs.Common.{◌≡◌, ◌∙◌, ℕ, Bool, true, false, cond, List, Some, None, refl, ap}
use Rattle.std.specs.Prelude.{IsUtf8, codes}
use Rattle.std.specs.Option.{option_and_then}
use Rattle.hyphenation_breaks.specs.Language.{is_code}
use Rattle.hyphenation_breaks.specs.Laws.{CodesAreText}
use Rattle.hyphenation_grammar.specs.Lines.{strip_prefix, language_of}

no_code : CodesAreText → (code : List ℕ) → (IsUtf8 code → ⊥) → None ≡ cond (is_code code) (Some code) None
no_code text code h = by (is_code code) (λ e. h (text code e))
  where
    by : (b : Bool) → (b ≡ true → ⊥) → None ≡ cond b (Some code) None
    by true f = absurd (f refl)
    by false f = refl

pub no_language : CodesAreText → (line code : List ℕ) → Some code ≡ strip_prefix (codes "language ") line → (IsUtf8 code → ⊥) → None ≡ language_of line
no_language text line code is h = no_code text code h ∙ ap (option_and_then (λ (c : List ℕ). cond (is_code c) (Some c) None)) is
