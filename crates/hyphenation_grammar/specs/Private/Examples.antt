-- Three of the four forms of dictionary texts, and bad lines of them, for examples.
use Rattle.std.specs.Prelude.{◌≡◌, ℕ, List, [], ◌∷◌, map, codes, Option}
use Rattle.hyphenation_breaks.specs.Break.{Change}
use Rattle.hyphenation_breaks.specs.declared.entry.Entry.{Entry}
use Rattle.hyphenation_grammar.specs.Form.{head_line}
use Rattle.hyphenation_grammar.specs.Judging.{cause_of}
use Rattle.hyphenation_grammar.specs.declared.form.Form.{Form}
use Rattle.hyphenation_grammar.specs.declared.form.Kind.TheVariants.{Standard, Extended}
use Rattle.hyphenation_grammar.specs.declared.form.Version.TheVariants.{First, Second}
use Rattle.hyphenation_grammar.specs.declared.Cause.{Cause}

-- The form of standard texts of version 1.
abbrev pub standard_first : Form
standard_first = record { kind = Standard; version = First }

-- The form of standard texts of version 2.
abbrev pub standard_second : Form
standard_second = record { kind = Standard; version = Second }

-- The form of extended texts of version 1.
abbrev pub extended_first : Form
extended_first = record { kind = Extended; version = First }

-- The first test that a line after three good head lines fails.
abbrev pub first_cause : Form → List ℕ → Option Cause
first_cause form line = cause_of form (head_line form ∷ codes "language hu" ∷ codes "minima 2 2" ∷ []) line

-- Each line fails that test first, after three good head lines; or none.
abbrev pub FailFirst : Form → Option Cause → List (List ℕ) → Type 0
FailFirst form cause lines = map (first_cause form) lines ≡ map (λ _. cause) lines

-- A change, field by field.
abbrev pub changed : ℕ → ℕ → List ℕ → ℕ → Change
changed left right substitution breakpoint =
    record { left = left; right = right; substitution = substitution; breakpoint = breakpoint }

-- An entry, field by field.
abbrev pub entry : ℕ → ℕ → Option Change → Entry (Option Change)
entry place value change = record { place = place; value = value; change = change }

-- Lines with a change that has not all parts, is not allowed there, or reaches past the key or word.
abbrev pub bad_changes : List (List ℕ)
bad_changes =
    codes "p a1b 1" ∷ codes "p a1b 0,0,0,0,\\e" ∷ codes "p a1b 1,2,0,0,\\e" ∷ codes "e ab 1,0,0"
    ∷ codes "e ab 1,0,0,0," ∷ codes "e ab 1,0,0,3,xy" ∷ []

-- Lines with a brace that opens or closes no value from 10 to 255.
abbrev pub bad_values : List (List ℕ)
bad_values =
    codes "p a{9}b" ∷ codes "p a{010}b" ∷ codes "p a{256}b" ∷ codes "p a{}b" ∷ codes "p a{10" ∷ codes "p a}b"
    ∷ codes "p {1\\0}" ∷ codes "p {10\\}" ∷ codes "p }12" ∷ []
