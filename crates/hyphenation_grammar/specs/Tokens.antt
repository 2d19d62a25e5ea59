-- Tokens: escapes, the elements of a pattern, and the parts of a later token.
use Rattle.std.specs.Prelude.{ℕ, ◌+◌, ◌-◌, ◌==◌, ◌&&◌, ◌||◌, nat_lt, nat_le, Bool, true, false, not, if◌then◌else◌, List, [], ◌∷◌, ◌++◌, length, map, take, drop, codes, Option, Some, None, is_some, unwrap_or, option_map, option_and_then, slice_index_or}
use Rattle.std.specs.List.{list_all, onto_first}
use Rattle.hyphenation_breaks.specs.Ascii.{backslash, carriage_return, close_brace, comma, digit_zero, letter_n, letter_r, letter_s, line_feed, open_brace, space}
use Rattle.hyphenation_breaks.specs.Break.{Change}
use Rattle.hyphenation_grammar.specs.Lines.{is_digit, number, is_same, number_to_255}
use Rattle.hyphenation_grammar.specs.declared.tokens.Escapes.{Escapes}
use Rattle.hyphenation_grammar.specs.declared.tokens.Escapes.TheVariants.{Plain, Digits, DigitsAndBraces}
use Rattle.hyphenation_grammar.specs.declared.form.Version.{Version}
use Rattle.hyphenation_grammar.specs.declared.form.Version.TheVariants.{First, Second}
use Rattle.hyphenation_grammar.specs.declared.tokens.EscapedByte.{EscapedByte}
use Rattle.hyphenation_grammar.specs.declared.tokens.PatternElement.{PatternElement}
use Rattle.hyphenation_grammar.specs.declared.tokens.PatternElement.TheVariants.{Letter, Value}

-- The escapes of a pattern, by version.
abbrev pub pattern_escapes : Version → Escapes
pattern_escapes First = Digits
pattern_escapes Second = DigitsAndBraces

-- A brace.
abbrev pub is_brace : ℕ → Bool
is_brace b = b == open_brace || b == close_brace

-- A letter after a backslash that means itself: a digit or a brace, where these escapes have them.
abbrev pub escaped_also : Escapes → ℕ → Bool
escaped_also Plain c = false
escaped_also Digits c = is_digit c
escaped_also DigitsAndBraces c = is_digit c || is_brace c

-- The byte that a letter after a backslash means; none if it begins no escape.
abbrev pub byte_of_escape : Escapes → ℕ → Option ℕ
byte_of_escape escapes c =
    if c == backslash then Some backslash
    else (if c == letter_s then Some space
    else (if c == letter_n then Some line_feed
    else (if c == letter_r then Some carriage_return else (if escaped_also escapes c then Some c else None))))

-- The bytes that one byte of a token adds, after a backslash or not: none for a backslash that opens an escape. It is
-- not allowed if it begins no escape after a backslash, or is a carriage return.
abbrev pub unescape_byte : Escapes → Bool → ℕ → Option (List EscapedByte)
unescape_byte escapes true c = option_map (λ byte. record { byte = byte; escaped = true } ∷ []) (byte_of_escape escapes c)
unescape_byte escapes false b =
    if b == backslash then Some []
    else (if b == carriage_return then None else Some (record { byte = b; escaped = false } ∷ []))

-- Two lists joined; none if either is none.
abbrev pub concatenation : Option (List EscapedByte) → Option (List EscapedByte) → Option (List EscapedByte)
concatenation front rest = option_and_then (λ xs. option_map (λ ys. xs ++ ys) rest) front

-- The bytes that a token spells, after a backslash or not; none if an escape is bad or unfinished, or a carriage return
-- is unescaped.
abbrev pub escaped_bytes_after : Escapes → Bool → List ℕ → Option (List EscapedByte)
escaped_bytes_after escapes true [] = None
escaped_bytes_after escapes false [] = Some []
escaped_bytes_after escapes after (b ∷ rest) =
    concatenation (unescape_byte escapes after b) (escaped_bytes_after escapes (not after && b == backslash) rest)

-- The bytes that a whole token spells. The law BytesAreSpelt says which.
abbrev pub escaped_bytes_of : Escapes → List ℕ → Option (List EscapedByte)
escaped_bytes_of escapes token = escaped_bytes_after escapes false token

-- The bytes, whether they were escaped or not.
abbrev pub bytes_of : List EscapedByte → List ℕ
bytes_of bytes = map (λ spelt. spelt.byte) bytes

-- The text that a word or a substitution spells; `\e` is the empty text. None if an escape is bad. Other tests refuse
-- an empty token.
abbrev pub text_spelt : List ℕ → Option (List ℕ)
text_spelt written =
    if is_same written (codes "\\e") then Some [] else option_map bytes_of (escaped_bytes_of Plain written)

-- The element that a byte is outside braces: an unescaped digit is a value.
abbrev pub element_of : EscapedByte → PatternElement
element_of spelt = if not spelt.escaped && is_digit spelt.byte then Value (spelt.byte - digit_zero) else Letter spelt.byte

-- An unescaped byte.
abbrev pub is_unescaped : ℕ → EscapedByte → Bool
is_unescaped b spelt = not spelt.escaped && spelt.byte == b

-- An unescaped digit.
abbrev pub is_unescaped_digit : EscapedByte → Bool
is_unescaped_digit spelt = not spelt.escaped && is_digit spelt.byte

-- The value that digits in braces write: a number from 10 to 255.
abbrev pub braced_value : List ℕ → Option ℕ
braced_value digits = option_and_then (λ value. if nat_le 10 value then Some value else None) (number_to_255 digits)

-- A step outside braces: the digits in the brace that the byte opens, if it does, and the elements that it adds. None
-- for a closing brace.
abbrev pub step_outside : EscapedByte → Option (Option (List ℕ) × List PatternElement)
step_outside spelt =
    if is_unescaped open_brace spelt then Some (Some [], [])
    else (if is_unescaped close_brace spelt then None else Some (None, element_of spelt ∷ []))

-- A step in braces, after these digits: one digit more, or the brace that ends the value. None for any other byte, and
-- for a bad value.
abbrev pub step_inside : List ℕ → EscapedByte → Option (Option (List ℕ) × List PatternElement)
step_inside digits spelt =
    if is_unescaped close_brace spelt then option_map (λ value. (None, Value value ∷ [])) (braced_value digits)
    else (if is_unescaped_digit spelt then Some (Some (digits ++ spelt.byte ∷ []), []) else None)

-- A step: in the first version braces are letters; in the second the byte is outside braces, or in them.
abbrev pub step_at : Version → Option (List ℕ) → EscapedByte → Option (Option (List ℕ) × List PatternElement)
step_at First digits spelt = Some (digits, element_of spelt ∷ [])
step_at Second None spelt = step_outside spelt
step_at Second (Some digits) spelt = step_inside digits spelt

-- The elements of bytes, outside braces or after these digits in them. None if a brace opens or closes no value. The
-- law ElementsAreSpelt says which.
abbrev pub elements_from : Version → Option (List ℕ) → List EscapedByte → Option (List PatternElement)
elements_from version None [] = Some []
elements_from version (Some digits) [] = None
elements_from version digits (spelt ∷ bytes) =
    option_and_then (λ step. option_map (λ elements. step.1 ++ elements) (elements_from version step.0 bytes))
    (step_at version digits spelt)

-- The bytes that a pattern's token spells.
abbrev pub pattern_bytes : Version → List ℕ → Option (List EscapedByte)
pattern_bytes version token = escaped_bytes_of (pattern_escapes version) token

-- The elements of a pattern's token, where each value with its braces is one. None if an escape or a brace is bad. The
-- law PatternsAreSpelt says which.
abbrev pub elements_of : Version → List ℕ → Option (List PatternElement)
elements_of version token = option_and_then (elements_from version None) (pattern_bytes version token)

-- The key that elements spell.
abbrev pub key_of : List PatternElement → List ℕ
key_of [] = []
key_of (Letter b ∷ elements) = b ∷ key_of elements
key_of (Value v ∷ elements) = key_of elements

-- The values other than 0, each at its place: the number of bytes of the key before it, plus `at`.
abbrev pub values_from : ℕ → List PatternElement → List (ℕ × ℕ)
values_from at [] = []
values_from at (Letter b ∷ elements) = values_from (at + 1) elements
values_from at (Value v ∷ elements) = if v == 0 then values_from at elements else (at, v) ∷ values_from at elements

-- An element is a value.
abbrev pub is_value_element : PatternElement → Bool
is_value_element (Letter b) = false
is_value_element (Value v) = true

-- Two values follow one another; `after` says whether a value came before.
abbrev pub two_values : Bool → List PatternElement → Bool
two_values after [] = false
two_values after (element ∷ elements) =
    (after && is_value_element element) || two_values (is_value_element element) elements

-- Parts with a byte in front: an empty part for a comma that splits, else the byte at the beginning of the first one.
abbrev pub put_byte : Bool → ℕ → List (List ℕ) → List (List ℕ)
put_byte true b parts = [] ∷ parts
put_byte false b parts = onto_first b parts

-- The parts of a text, split at this number of its first commas.
abbrev pub parts_within : ℕ → List ℕ → List (List ℕ)
parts_within commas [] = [] ∷ []
parts_within commas (b ∷ rest) =
    let cuts = b == comma && nat_lt 0 commas in put_byte cuts b (parts_within (if cuts then commas - 1 else commas) rest)

-- The parts of a later token, split at its first four commas.
abbrev pub parts_of : List ℕ → List (List ℕ)
parts_of token = parts_within 4 token

-- Part number i, counted from 0; empty if there is none.
abbrev pub part : ℕ → List ℕ → List ℕ
part i token = slice_index_or (parts_of token) i []

-- A later token has a comma.
abbrev pub has_comma : List ℕ → Bool
has_comma token = nat_lt 1 (length (parts_of token))

-- The parts that must be numbers: those before a comma, or the whole token without one.
abbrev pub numerals_of : List ℕ → List (List ℕ)
numerals_of token = if has_comma token then take (length (parts_of token) - 1) (parts_of token) else parts_of token

-- A later token is not empty, and each part can be read. `\e` is allowed only after the fourth comma.
abbrev pub is_readable : List ℕ → Bool
is_readable token =
    nat_lt 0 (length token) && list_all (λ written. is_some (escaped_bytes_of Plain written)) (take 4 (parts_of token))
    && list_all (λ written. is_some (text_spelt written)) (drop 4 (parts_of token))

-- The place of a later token: its first part.
abbrev pub place_of_token : List ℕ → ℕ
place_of_token token = number (part 0 token)

-- A later token has all five parts: place, left, right, breakpoint, and a substitution that is not empty as written.
abbrev pub has_five_parts : List ℕ → Bool
has_five_parts token = length (parts_of token) == 5 && nat_lt 0 (length (part 4 token))

-- The change of a later token: its parts after the first.
abbrev pub change_of_token : List ℕ → Change
change_of_token token =
    record {
      left = number (part 1 token);
      right = number (part 2 token);
      substitution = unwrap_or
          (text_spelt (part 4 token)) [];
      breakpoint = number (part 3 token);
    }
