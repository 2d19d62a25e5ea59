-- Patterns of worked examples.
use Rattle.std.specs.Prelude.{ℕ, List, [], ◌∷◌, codes, nat_eq, map, Option}
use Rattle.std.specs.Map.{lookup}
use Rattle.std.specs.Option.{option_map}
use Rattle.std.specs.Cmp.Lexicographic.{pointwise}
use Rattle.hyphenation_breaks.specs.Dictionary.{Patterns}
use Rattle.hyphenation_breaks.specs.declared.entry.Entry.{Entry}
use Rattle.hyphenation_score.specs.Scoring.{winners}

-- A key with one entry: the value at the place. Its payload is a number, which distinguishes it from others.
abbrev pub pattern : List ℕ → ℕ → ℕ → ℕ → List ℕ × List (Entry ℕ)
pattern key place value change = (key, record { place = place; value = value; change = change } ∷ [])

-- The patterns of a list of keys, each with its entries.
abbrev pub patterns_from : List (List ℕ × List (Entry ℕ)) → Patterns ℕ
patterns_from keys text = lookup (pointwise nat_eq text) keys

-- The payloads of the winners of a word's places.
abbrev pub changes_won : Patterns ℕ → List ℕ → List (Option ℕ)
changes_won keys word = map (λ winner. option_map (λ entry. entry.change) winner) (winners keys word)

-- .fi2 i2r r2k r5kin k1in k2in.
abbrev pub english_patterns : Patterns ℕ
english_patterns =
    patterns_from (pattern (codes ".fi") 3 2 0 ∷ pattern (codes "ir") 1 2 0 ∷ pattern (codes "rk") 1 2 0 ∷ pattern
    (codes "rkin") 1 5 0 ∷ pattern (codes "kin") 1 1 0 ∷ pattern (codes "kin.") 1 2 0 ∷ [])

-- a1b with payload 7, and ca1bd with payload 9.
abbrev pub early_and_late : Patterns ℕ
early_and_late = patterns_from (pattern (codes "ab") 1 1 7 ∷ pattern (codes "cabd") 2 1 9 ∷ [])

-- a1b with payload 7, and a1bd with payload 8.
abbrev pub short_and_long : Patterns ℕ
short_and_long = patterns_from (pattern (codes "abd") 1 1 8 ∷ pattern (codes "ab") 1 1 7 ∷ [])

-- .b1c
abbrev pub dotted_patterns : Patterns ℕ
dotted_patterns = patterns_from (pattern (codes ".bc") 2 1 0 ∷ [])
