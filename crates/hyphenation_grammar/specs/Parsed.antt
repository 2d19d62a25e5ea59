-- The results of one pass over a token. hyphenation_reader proves them equal to Items and Judging.
use Rattle.std.specs.Prelude.{◌≡◌, ℕ, ◌<◌, ◌==◌, ◌-◌, ◌||◌, ◌&&◌, nat_lt, Bool, true, false, if◌then◌else◌, List, [], ◌∷◌, ◌++◌, length, fold, take, codes, slice_index_or, Option, Some, None, is_some, option_map, option_and_then}
use Rattle.std.specs.List.{list_all}
use Rattle.std.specs.declared.vec.Vec.{Vec}
use Rattle.hyphenation_breaks.specs.Break.{Change, is_boundary}
use Rattle.hyphenation_grammar.specs.Lines.{between_spaces, is_number, number, number_of, strip_prefix}
use Rattle.hyphenation_grammar.specs.Tokens.{is_readable, parts_of, pattern_bytes, pattern_escapes, step_at, text_spelt, unescape_byte}
use Rattle.hyphenation_grammar.specs.declared.pattern.PatternToken.{PatternToken}
use Rattle.hyphenation_grammar.specs.declared.tokens.LaterToken.{LaterToken}
use Rattle.hyphenation_grammar.specs.declared.tokens.LaterToken.TheVariants.{NoNumber, Unsound, Sound}
use Rattle.hyphenation_grammar.specs.declared.form.Version.{Version}
use Rattle.hyphenation_grammar.specs.declared.tokens.EscapedByte.{EscapedByte}
use Rattle.hyphenation_grammar.specs.declared.tokens.PatternElement.{PatternElement}
use Rattle.hyphenation_grammar.specs.declared.tokens.PatternElement.TheVariants.{Letter, Value}

-- The contents of a pattern, as far as it is read: the key, and the values other than 0 at their places. Whether the last
-- element is a value, two values follow one another, or a value is bad; and the digits in an open brace.
pub record ReadPattern : Type 0 where
  pub key : List ℕ
  pub values : List (ℕ × ℕ)
  pub ends_in_value : Bool
  pub has_two_values : Bool
  pub has_bad_value : Bool
  pub digits : Option (List ℕ)

-- The contents before the first byte.
abbrev pub nothing_read : ReadPattern
nothing_read =
    record {
      key = [];
      values = [];
      ends_in_value = false;
      has_two_values = false;
      has_bad_value = false;
      digits = None;
    }

-- Some brace opens or closes no value, if the token ends here.
abbrev pub is_bad : ReadPattern → Bool
is_bad r = r.has_bad_value || is_some r.digits

-- The contents with one element more. A value is at the place after the letters before it.
abbrev pub with_element : ReadPattern → PatternElement → ReadPattern
with_element r (Letter b) = record r { key = r.key ++ b ∷ []; ends_in_value = false }
with_element r (Value v) =
    record r {
      values = if v == 0 then r.values else r.values ++ (length r.key, v) ∷ [];
      ends_in_value = true;
      has_two_values = r.has_two_values || r.ends_in_value;
    }

-- The contents after a step: the digits in an open brace, and the elements that it adds; or a bad value.
abbrev pub with_step : ReadPattern → Option (Option (List ℕ) × List PatternElement) → ReadPattern
with_step r None = record r { has_bad_value = true; digits = None }
with_step r (Some step) = record (fold with_element r step.1) { digits = step.0 }

-- The contents with one byte more, whose escape is read.
abbrev pub with_spelt : Version → ReadPattern → EscapedByte → ReadPattern
with_spelt version r spelt = with_step r (step_at version r.digits spelt)

-- The contents with one byte more of the token; `after` says whether the byte before it began an escape.
abbrev pub with_byte : Version → Bool → ReadPattern → ℕ → Option ReadPattern
with_byte version after r byte = option_map (fold (with_spelt version) r) (unescape_byte (pattern_escapes version) after byte)

-- A value, if a test holds.
abbrev pub some_if : {X : Type 0} → Bool → X → Option X
some_if test x = if test then Some x else None

-- The digits in braces, as bytes.
abbrev pub digits_of : {X Y : Type 0} → Option (Vec X Y) → Option (List X)
digits_of digits = option_map (λ v. v.items) digits

-- The contents that a reader of patterns holds.
abbrev pub pattern_view : PatternToken → ReadPattern
pattern_view p = record {
  key = p.key.items;
  values = p.values.items;
  ends_in_value = p.ends_in_value;
  has_two_values = p.has_two_values;
  has_bad_value = p.has_bad_value;
  digits = digits_of p.digits;
}

-- The contents of a whole token; none if an escape is bad.
abbrev pub read_pattern : Version → List ℕ → Option ReadPattern
read_pattern version token = option_map (fold (with_spelt version) nothing_read) (pattern_bytes version token)

-- A text is one token, not empty, with these contents in each version.
abbrev pub IsPatternToken : ReadPattern → List ℕ → Type 0
IsPatternToken pattern text =
    (0 < length text) × (between_spaces text ≡ text ∷ []) × ((version : Version) → Some pattern ≡ read_pattern version text)

-- A line is `p ` and a token of that sort.
abbrev pub IsPatternLine : ReadPattern → List ℕ → Type 0
IsPatternLine pattern line = (text : List ℕ) × (Some text ≡ strip_prefix (codes "p ") line) × IsPatternToken pattern text

-- A part of a later token.
abbrev pub part_at : List (List ℕ) → ℕ → List ℕ
part_at parts i = slice_index_or parts i []

-- A change of these numbers, if its breakpoint is between characters of its substitution.
abbrev pub change_with : ℕ → ℕ → ℕ → List ℕ → Option Change
change_with left right breakpoint substitution =
    if is_boundary substitution breakpoint
    then Some (record { left = left; right = right; substitution = substitution; breakpoint = breakpoint })
    else None

-- The change of five parts, if each can be read and the breakpoint is between characters.
abbrev pub sound_change : List (List ℕ) → Option Change
sound_change parts =
    if length parts == 5 && nat_lt 0 (length (part_at parts 4))
    then option_and_then (λ left. option_and_then
    (λ right. option_and_then (λ breakpoint. option_and_then (λ substitution. change_with left right breakpoint
    substitution)
    (text_spelt (part_at parts 4))) (number_of (part_at parts 3))) (number_of (part_at parts 2)))
    (number_of (part_at parts 1))
    else None

-- A token with commas at a place; unsound if it has no change.
abbrev pub token_with : ℕ → Option Change → LaterToken
token_with place None = Unsound place
token_with place (Some change) = Sound place (Some change)

-- The token of two parts or more.
abbrev pub parse_change_token : List (List ℕ) → LaterToken
parse_change_token parts =
    if list_all is_number (take (length parts - 1) parts)
    then token_with (number (part_at parts 0)) (sound_change parts)
    else NoNumber

-- The token of parts.
abbrev pub parse_parts : List (List ℕ) → LaterToken
parse_parts parts =
    if nat_lt 1 (length parts) then parse_change_token parts
    else (if list_all is_number parts then Sound (number (part_at parts 0)) None else NoNumber)

-- A later token, read; none if it is empty or an escape is bad.
abbrev pub later_token : List ℕ → Option LaterToken
later_token token = if is_readable token then Some (parse_parts (parts_of token)) else None
