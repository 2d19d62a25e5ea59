-- The contents of the tokens of a line.
-- It follows the steps of private functions, which are proved equal to Items and Judging. No public contract cites it.
use Rattle.std.specs.Prelude.{ℕ, ◌==◌, Bool, true, false, if◌then◌else◌, List, [], ◌∷◌, ◌++◌, length, drop, slice_index_or, Option, Some, None, option_map, option_and_then}
use Rattle.hyphenation_breaks.specs.Break.{Change}
use Rattle.hyphenation_grammar.specs.Parsed.{ReadPattern, later_token, read_pattern}
use Rattle.hyphenation_grammar.specs.Tokens.{text_spelt}
use Rattle.hyphenation_grammar.specs.declared.form.Version.{Version}
use Rattle.hyphenation_grammar.specs.declared.tokens.LaterToken.{LaterToken}
use Rattle.hyphenation_grammar.specs.declared.tokens.LaterToken.TheVariants.{NoNumber, Unsound, Sound}
use Rattle.hyphenation_reader.specs.declared.items.Later.{Later}

-- The contents of later tokens: places with their changes. Whether each part is a number that must be one, and each
-- change has all parts, and its breakpoint between characters.
pub record ReadLater : Type 0 where
  pub listed : List (ℕ × Option Change)
  pub are_numbers : Bool
  pub are_sound : Bool

-- The contents of no tokens.
abbrev pub no_later : ReadLater
no_later = record { listed = []; are_numbers = true; are_sound = true }

-- The contents with one token more.
abbrev pub with_token : ReadLater → LaterToken → ReadLater
with_token r NoNumber = record { listed = r.listed; are_numbers = false; are_sound = r.are_sound }
with_token r (Unsound place) =
    record { listed = r.listed ++ (place, None) ∷ []; are_numbers = r.are_numbers; are_sound = false }
with_token r (Sound place change) =
    record { listed = r.listed ++ (place, change) ∷ []; are_numbers = r.are_numbers; are_sound = r.are_sound }

-- The contents with more tokens; none if one of them can't be read.
abbrev pub read_later : ReadLater → List (List ℕ) → Option ReadLater
read_later r [] = Some r
read_later r (token ∷ tokens) = option_and_then (λ t. read_later (with_token r t) tokens) (later_token token)

-- The contents that the reader holds.
abbrev pub later_view : Later → ReadLater
later_view l = record { listed = l.listed.items; are_numbers = l.are_numbers; are_sound = l.are_sound }

-- The first token; empty if there is none.
abbrev pub first_token : List (List ℕ) → List ℕ
first_token tokens = slice_index_or tokens 0 []

-- Both, if neither is missing.
abbrev pub both : {X Y : Type 0} → Option X → Option Y → Option (X × Y)
both first later = option_and_then (λ x. option_map (λ y. (x, y)) later) first

-- The contents of the tokens of a `p` line.
abbrev pub pattern_parts : Version → List (List ℕ) → Option (ReadPattern × ReadLater)
pattern_parts version tokens =
    if length (first_token tokens) == 0 then None
    else both (read_pattern version (first_token tokens)) (read_later no_later (drop 1 tokens))

-- The contents of the tokens of an `e` line.
abbrev pub exception_parts : List (List ℕ) → Option (List ℕ × ReadLater)
exception_parts tokens =
    if length (first_token tokens) == 0 then None
    else both (text_spelt (first_token tokens)) (read_later no_later (drop 1 tokens))
