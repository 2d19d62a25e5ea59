-- The words of a text.
use Rattle.std.specs.Prelude.{◌≡◌, ℕ, ◌==◌, ◌&&◌, ◌||◌, Bool, not, if◌then◌else◌, List, [], ◌∷◌, ◌++◌, length, chars}
use Rattle.std.specs.Prelude.{encode_utf8}
use Rattle.std.specs.Char.{is_whitespace}

-- A no-break space: at it no line ends.
abbrev pub is_no_break_space : ℕ → Bool
is_no_break_space c = c == 0xA0 || c == 0x2007 || c == 0x202F

-- A gap between words: white space, but no no-break space.
abbrev pub is_gap : ℕ → Bool
is_gap c = is_whitespace c && not (is_no_break_space c)

-- The text as the only one, or nothing if it is empty.
abbrev pub if_any : List ℕ → List (List ℕ)
if_any text = if length text == 0 then [] else text ∷ []

-- The words of characters, where these bytes of the first word are before them. A gap ends a word, and any other
-- character goes on with it.
abbrev pub words_after : List ℕ → List ℕ → List (List ℕ)
words_after begun [] = if_any begun
words_after begun (c ∷ cs) =
    if is_gap c then if_any begun ++ words_after [] cs else words_after (begun ++ encode_utf8 c) cs

-- The words of a text: what is between its gaps.
abbrev pub words : List ℕ → List (List ℕ)
words text = words_after [] (chars text)

-- A text ends in another one.
abbrev pub EndsIn : List ℕ → List ℕ → Type 0
EndsIn text rest = (front : List ℕ) × (text ≡ front ++ rest)
