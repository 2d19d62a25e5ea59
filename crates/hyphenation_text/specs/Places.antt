-- Where marks are put into a text. Places are byte offsets.
use Rattle.std.specs.Prelude.{ℕ, ◌+◌, ◌||◌, Bool, false, List, [], ◌∷◌, ◌++◌, map, length, if◌then◌else◌}
use Rattle.text_words.specs.Words.{text_words}
use Rattle.html_pieces.specs.Bytes.{is_white_space}
use Rattle.hyphenation_text.specs.Dictionaries.{Breaks}
use Rattle.hyphenation_text.specs.Words.{is_left_whole}

-- Places that are n bytes further on.
abbrev pub shifted : ℕ → List ℕ → List ℕ
shifted n places = map (λ p. n + p) places

-- The breaks of words that follow one another.
abbrev pub words_places : Breaks → List (List ℕ) → List ℕ
words_places breaks [] = []
words_places breaks (word ∷ words) = breaks word ++ shifted (length word) (words_places breaks words)

-- The breaks of the words of a token, which is between white space; none where it is left whole.
unfoldable pub token_places : Breaks → List ℕ → List ℕ
token_places breaks token = if is_left_whole token then [] else words_places breaks (text_words token)

-- The breaks of a text from a token on, whose bytes so far are `front`. A token whose word goes on outside of the text has
-- none. It is the first one where something touches the text from before, and the last one where it does from after.
abbrev pub tokens_places : Breaks → Bool → Bool → List ℕ → List ℕ → List ℕ
tokens_places breaks before after front [] = if before || after then [] else token_places breaks front
tokens_places breaks before after front (b ∷ bs) =
    if is_white_space b
    then (if before then [] else token_places breaks front)
    ++ shifted (length front) (shifted 1 (tokens_places breaks false after [] bs))
    else tokens_places breaks before after (front ++ b ∷ []) bs

-- The breaks of a text.
abbrev pub text_places : Breaks → Bool → Bool → List ℕ → List ℕ
text_places breaks before after text = tokens_places breaks before after [] text
