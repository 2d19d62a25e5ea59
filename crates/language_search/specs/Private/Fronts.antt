-- Fronts of a tag that are left while they are gone through from the longest to the shortest.
use Rattle.std.specs.Prelude.{◌≡◌, ℕ, ◌+◌, ◌==◌, List, ◌++◌, map, take, reverse, filter, slice_index}
use Rattle.std.specs.List.{range_with_len}
use Rattle.hyphenation_breaks.specs.Ascii.{hyphen}
use Rattle.hyphenation_breaks.specs.Language.{is_code}

-- The fronts that end at a hyphen before a place, from the longest to the shortest.
abbrev pub fronts_before : List ℕ → ℕ → List (List ℕ)
fronts_before tag end =
    map (λ place. take place tag) (reverse (filter (λ place. slice_index tag place == hyphen) (range_with_len 0 end)))

-- The codes among these fronts.
abbrev pub codes_before : List ℕ → ℕ → List (List ℕ)
codes_before tag end = filter is_code (fronts_before tag end)

-- A place is passed: with the codes that are left then, the codes are those that they were with it.
abbrev pub PassesPlace : List ℕ → ℕ → List (List ℕ) → List (List ℕ) → Type 0
PassesPlace tag place old new = new ++ codes_before tag place ≡ old ++ codes_before tag (place + 1)
