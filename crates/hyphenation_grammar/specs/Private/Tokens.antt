-- Bytes that need no escape, bytes of ordinary patterns, and the steps by which a later token is split and read.
use Rattle.std.specs.Prelude.{◌≡◌, ℕ, ◌-◌, ◌==◌, ◌<◌, ◌&&◌, ◌||◌, nat_lt, Bool, not, if◌then◌else◌, List, [], ◌∷◌, take, drop, slice_index_or, Option, Some, None, is_some}
use Rattle.std.specs.List.{list_all}
use Rattle.hyphenation_grammar.specs.Lines.{is_number, number}
use Rattle.hyphenation_grammar.specs.Tokens.{escaped_bytes_of, parts_within, text_spelt}
use Rattle.hyphenation_grammar.specs.declared.tokens.Escapes.TheVariants.{Plain}
use Rattle.hyphenation_breaks.specs.Ascii.{backslash, carriage_return, open_brace, space}

-- A byte that means itself, without an escape.
abbrev pub stands_for_itself : ℕ → Bool
stands_for_itself b = not (b == backslash || b == carriage_return)

-- A byte that is a letter or a value by itself in each pattern: no space, no control character, no backslash, no brace.
abbrev pub is_ordinary : ℕ → Bool
is_ordinary b = nat_lt space b && not (b == backslash) && (nat_lt b open_brace || nat_lt 127 b)

-- A comma that may split the text is between the two.
abbrev pub IsSplit : ℕ → List ℕ → List ℕ → List ℕ → Type 0
IsSplit commas text before after =
    (0 < commas) × (parts_within commas text ≡ before ∷ parts_within (commas - 1) after)

-- Each part can be read; `\e` may be only after the fourth comma.
abbrev pub are_readable : List (List ℕ) → Bool
are_readable parts =
    list_all (λ written. is_some (escaped_bytes_of Plain written)) (take 4 parts)
    && list_all (λ written. is_some (text_spelt written)) (drop 4 parts)

-- The number of the first part, if that many parts are numbers.
abbrev pub first_number : ℕ → List (List ℕ) → Option ℕ
first_number count parts =
    if list_all is_number (take count parts) then Some (number (slice_index_or parts 0 [])) else None
