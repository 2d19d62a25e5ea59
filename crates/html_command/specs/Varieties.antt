-- Varieties of a language, by their codes. Source: RFC 5646, 2.1: after the language a code has parts for a script, of 4 letters,
-- for a region, of 2 letters or 3 digits, and for variants, which are longer. So parts of one sort are equally long.
use Rattle.std.specs.Prelude.{ℕ, ◌==◌, ◌&&◌, Bool, false, not, List, [], ◌∷◌, length}
use Rattle.std.specs.List.{list_any, slice_split}
use Rattle.std.specs.Str.{bytes_eq}
use Rattle.hyphenation_breaks.specs.Ascii.{hyphen}

-- The parts of a code, which are between its hyphens.
abbrev pub parts_of : List ℕ → List (List ℕ)
parts_of code = slice_split (λ byte. byte == hyphen) code

-- Two parts are equally long, and not the same.
abbrev pub are_rivals : List ℕ → List ℕ → Bool
are_rivals one other = length one == length other && not (bytes_eq one other)

-- One of some parts is a rival of one of some others.
abbrev pub have_rivals : List (List ℕ) → List (List ℕ) → Bool
have_rivals parts others = list_any (λ part. list_any (λ other. are_rivals part other) others) parts

-- The parts of two codes are those of two varieties: the language is the same, and parts after it are rivals.
abbrev pub are_varieties : List (List ℕ) → List (List ℕ) → Bool
are_varieties [] others = false
are_varieties (one ∷ parts) [] = false
are_varieties (one ∷ parts) (other ∷ others) = bytes_eq one other && have_rivals parts others

-- Two codes are those of two varieties of one language, as en-gb and en-us.
abbrev pub are_other_varieties : List ℕ → List ℕ → Bool
are_other_varieties code other = are_varieties (parts_of code) (parts_of other)
