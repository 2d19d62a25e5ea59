-- A text with marks, token by token, as it is written.
use Rattle.std.specs.Prelude.{◌≡◌, ℕ, ◌≤◌, ◌||◌, Bool, false, List, [], ◌∷◌, ◌++◌, slice_range, if◌then◌else◌}
use Rattle.std.specs.List.{flat_map}
use Rattle.std.specs.Str.{IsCharBoundary}
use Rattle.any_dictionary.specs.declared.AnyDictionary.{AnyDictionary}
use Rattle.html_pieces.specs.Bytes.{is_white_space}
use Rattle.text_words.specs.Words.{text_words}
use Rattle.hyphenation_segments.specs.Laws.{with_marks}
use Rattle.hyphenation_text.specs.Dictionaries.{Breaks}
use Rattle.hyphenation_text.specs.Texts.{so_far}
use Rattle.hyphenation_text.specs.Words.{breaks_under, is_left_whole}
use Rattle.hyphenation_text.specs.declared.settings.Settings.{Settings}
use Rattle.hyphenation_text.specs.declared.text.Output.{Output}

-- A word with the mark at its breaks.
abbrev pub marked_word : Breaks → List ℕ → List ℕ → List ℕ
marked_word breaks mark word = with_marks mark word (breaks word)

-- A token with the mark at the breaks of its words, or as it is where it is left whole.
unfoldable pub marked_token : Breaks → List ℕ → List ℕ → List ℕ
marked_token breaks mark token =
    if is_left_whole token then token else flat_map (marked_word breaks mark) (text_words token)

-- A text with its marks, from a token on, whose bytes so far are `front`.
abbrev pub marked_tokens : Breaks → List ℕ → Bool → Bool → List ℕ → List ℕ → List ℕ
marked_tokens breaks mark before after front [] = if before || after then front else marked_token breaks mark front
marked_tokens breaks mark before after front (b ∷ bs) =
    if is_white_space b
    then (if before then front else marked_token breaks mark front) ++ b ∷ marked_tokens breaks mark false after [] bs
    else marked_tokens breaks mark before after (front ++ b ∷ []) bs

-- ---- the same by the settings and the dictionary of a call

-- A token with its marks, or as it is where its word goes on outside of the text.
abbrev pub token_unless : Bool → Settings → AnyDictionary → List ℕ → List ℕ
token_unless touches settings dictionary token =
    if touches then token else marked_token (breaks_under settings dictionary) settings.mark.now token

-- The output, and the text from a place to an end, which is not appended yet, are the whole.
pub record Leaves (text : List ℕ) (kept end : ℕ) (output whole : List ℕ) : Type 0 where
  pub order : kept ≤ end
  pub begins : IsCharBoundary text kept
  pub gives : output ++ slice_range text kept end ≡ whole

-- The text from `kept` on through a token is written with the token's marks, or is left from a place on.
abbrev pub Puts : Bool → Settings → AnyDictionary → List ℕ → ℕ → ℕ → ℕ → Output → Output → ℕ → Type 0
Puts touches settings dictionary text kept start end old new left =
    let own = token_unless touches settings dictionary (slice_range text start end) in
    Leaves text left end (so_far new) (so_far old ++ (slice_range text kept start ++ own))

-- A text with its marks.
abbrev pub marked_tokens_by : Settings → AnyDictionary → Bool → Bool → List ℕ → List ℕ
marked_tokens_by settings dictionary before after text =
    marked_tokens (breaks_under settings dictionary) settings.mark.now before after [] text
