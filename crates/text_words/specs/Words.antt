-- The words of a text. Places are byte offsets.
-- Source of word bounds: UAX #29, Unicode Text Segmentation, as the kit's crate `unicode_segmentation` states it.
use Rattle.std.specs.Prelude.{◌≡◌, ℕ, ◌<◌, ◌==◌, ◌||◌, ◌&&◌, Bool, true, false, List, [], ◌∷◌, ◌++◌, length, nat_le, if◌then◌else◌}
use Rattle.std.specs.Char.{is_ascii_alphabetic, is_ascii_digit}
use Rattle.std.specs.List.{concat, flat_map, list_all}
use Rattle.std.specs.Str.{IsUtf8}
use Rattle.unicode_segmentation.specs.Segments.{with_offsets}
use Rattle.unicode_segmentation.specs.Word.{word_bounds}
use Rattle.word_pieces.specs.Pieces.{AreSlices}

-- ---- the words of a text

-- A dot or a colon. Between letters they bound no word for Unicode, so a piece may have some.
abbrev pub is_sign : ℕ → Bool
is_sign b = b == 46 || b == 58

-- The text as the only one, or nothing if it is empty.
abbrev pub if_any : List ℕ → List (List ℕ)
if_any [] = []
if_any (b ∷ bs) = (b ∷ bs) ∷ []

-- The words of the rest of a piece, where these bytes of the first word are before it. A sign is a word of its own.
abbrev pub words_after : List ℕ → List ℕ → List (List ℕ)
words_after begun [] = if_any begun
words_after begun (b ∷ bs) = if is_sign b then if_any begun ++ (b ∷ []) ∷ words_after [] bs else words_after (begun ++ b ∷ []) bs

-- The words of a piece.
abbrev pub words_of_piece : List ℕ → List (List ℕ)
words_of_piece piece = words_after [] piece

-- The words of a text: those of its pieces between word bounds.
unfoldable pub text_words : List ℕ → List (List ℕ)
text_words text = flat_map words_of_piece (word_bounds text)

-- ---- words that are not broken

-- A byte is an ASCII letter, or belongs to a character beyond ASCII.
abbrev pub is_of_letter : ℕ → Bool
is_of_letter b = is_ascii_alphabetic b || nat_le 128 b

-- A letter and a digit are side by side.
abbrev pub are_mixed : ℕ → ℕ → Bool
are_mixed a b = is_of_letter a && is_ascii_digit b || is_ascii_digit a && is_of_letter b

-- So it is somewhere in a text after this byte.
abbrev pub is_mixed_after : ℕ → List ℕ → Bool
is_mixed_after before [] = false
is_mixed_after before (b ∷ bs) = are_mixed before b || is_mixed_after b bs

-- A word has a letter beside a digit.
abbrev pub is_mixed : List ℕ → Bool
is_mixed word = is_mixed_after 0 word

-- The breaks of words, where one with a letter beside a digit has none.
abbrev pub unless_mixed : {B : Type 0} → (List ℕ → List B) → List ℕ → List B
unless_mixed breaks word = if is_mixed word then [] else breaks word

-- ---- laws

-- The words of each text are slices of it, each between two character boundaries.
abbrev pub WordsAreSlices : Type 0
WordsAreSlices = (text : List ℕ) → IsUtf8 text → AreSlices text (with_offsets 0 (text_words text))

-- The words of each text join to it.
abbrev pub WordsJoin : Type 0
WordsJoin = (text : List ℕ) → IsUtf8 text → concat (text_words text) ≡ text

-- A text of letters of ASCII is one word, and may be broken.
abbrev pub LettersAreOneWord : Type 0
LettersAreOneWord = (text : List ℕ) → 0 < length text → list_all is_ascii_alphabetic text ≡ true
    → (text_words text ≡ text ∷ []) × (is_mixed text ≡ false)
