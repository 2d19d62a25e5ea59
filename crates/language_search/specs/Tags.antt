-- Tags of languages as they are searched, their fronts, and the codes among these.
use Rattle.std.specs.Prelude.{ℕ, ◌==◌, if◌then◌else◌, List, ◌∷◌, length, map, take, reverse, filter, slice_index}
use Rattle.std.specs.Char.{to_ascii_lowercase}
use Rattle.std.specs.List.{range_with_len}
use Rattle.hyphenation_breaks.specs.Ascii.{hyphen}
use Rattle.hyphenation_breaks.specs.Language.{is_code}

-- The byte of an underscore.
abbrev pub underscore : ℕ
underscore = 95

-- A byte of a tag as it is searched: a small letter for a capital one, and a hyphen for an underscore.
abbrev pub searched_byte : ℕ → ℕ
searched_byte byte = if byte == underscore then hyphen else to_ascii_lowercase byte

-- A tag as it is searched.
abbrev pub searched : List ℕ → List ℕ
searched tag = map searched_byte tag

-- The places of the hyphens of a tag, from the last one to the first.
abbrev pub hyphens : List ℕ → List ℕ
hyphens tag = reverse (filter (λ place. slice_index tag place == hyphen) (range_with_len 0 (length tag)))

-- The fronts of a tag: the tag itself, and then what is before each of its hyphens, from the last one to the first.
abbrev pub fronts : List ℕ → List (List ℕ)
fronts tag = tag ∷ map (λ place. take place tag) (hyphens tag)

-- The codes of a tag: those of its fronts, as it is searched, that are codes of languages.
abbrev pub codes_of : List ℕ → List (List ℕ)
codes_of tag = filter is_code (fronts (searched tag))
