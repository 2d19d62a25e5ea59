-- A text that is written word by word is the text with marks at its places.
use Rattle.std.proofs.Common.{◌≡◌, ℕ, ◌+◌, ◌<◌, ◌||◌, ◌∙◌, Bool, true, false, List, [], ◌∷◌, ◌++◌, length, refl, sym, arith, append_assoc, append-nil, subst, IsTrue, if◌then◌else◌}
use Rattle.std.specs.List.{concat, flat_map}
use Rattle.std.specs.Str.{IsUtf8}
use Rattle.std.proofs.lemmas.Str.{IsUtf8-between}
use Rattle.unicode_segmentation.specs.Segments.{with_offsets}
use Rattle.text_words.specs.Words.{text_words, WordsAreSlices, WordsJoin}
use Rattle.word_pieces.specs.Pieces.{AreSlices}
use Rattle.html_pieces.specs.Bytes.{is_white_space}
use Rattle.hyphenation_breaks.specs.Break.{ascend_on}
use Rattle.hyphenation_segments.specs.Laws.{JoinsToText, JoinsToMarkedText}
use Rattle.hyphenation_hyphenator.specs.Laws.{FitWhereAscending}
use Rattle.hyphenation_text.specs.Dictionaries.{Breaks}
use Rattle.hyphenation_text.specs.Laws.{IsMarked, Within}
use Rattle.hyphenation_text.specs.Places.{shifted, words_places, token_places, tokens_places, text_places}
use Rattle.hyphenation_text.specs.Texts.{marked_text}
use Rattle.hyphenation_text.specs.Words.{is_left_whole}
use Rattle.hyphenation_text.specs.Dictionaries.{AllAscend}
use Rattle.hyphenation_text.specs.Private.Marked.{marked_word, marked_token, marked_tokens}
use Rattle.hyphenation_text.proofs.Boundaries.{ascends_of, boundary_within, front_utf8, rest_utf8, past_white, seam_boundary}
use Rattle.hyphenation_text.proofs.Marks.{joined, unmarked, word_in_parts}
use Rattle.hyphenation_text.proofs.TextSteps.{white_is_ascii}

-- ---- words

-- Places that ascend on a text are not past its end.
ascend_within : (text : List ℕ) (least : ℕ) (ps : List ℕ) → IsTrue (ascend_on text least ps) → Within (length text) ps
ascend_within text least [] a = tt
ascend_within text least (p ∷ ps) a =
    let first = ascends_of text least p ps a in
    (boundary_within text p first.at, ascend_within text (p + 1) ps first.later)

-- The laws of segments, breaks and words that the libraries prove.
pub record Laws : Type 0 where
  pub words : WordsAreSlices
  pub words_join : WordsJoin
  pub join : JoinsToText
  pub joins : JoinsToMarkedText
  pub fit : FitWhereAscending

word_marked : (laws : Laws) (breaks : Breaks) (mark word : List ℕ) → AllAscend breaks → IsUtf8 word → IsMarked mark word (breaks word) (marked_word breaks mark word)
word_marked laws breaks mark word a u = record {
  is = refl;
  within = ascend_within word 0 (breaks word) (a word u);
  parts = word_in_parts mark word (breaks word) laws.join laws.joins ((laws.fit word (breaks word)).1 (a word u));
}

words_marked : (laws : Laws) (breaks : Breaks) (mark : List ℕ) → AllAscend breaks → (text : List ℕ) (at : ℕ) (words : List (List ℕ)) → IsUtf8 text → AreSlices text (with_offsets at words)
    → IsMarked mark (concat words) (words_places breaks words) (flat_map (marked_word breaks mark) words)
unfolding with_offsets
words_marked laws breaks mark a text at [] u s = unmarked mark []
words_marked laws breaks mark a text at (word ∷ words) u s =
    let own : IsUtf8 word = subst IsUtf8 (sym s.0.bytes) (IsUtf8-between text at (at + length word) u (omega arith) s.0.start s.0.end) in
    joined (word_marked laws breaks mark word a own) (words_marked laws breaks mark a text (at + length word) words u s.1)

-- ---- tokens

token_words : (laws : Laws) (breaks : Breaks) (mark token : List ℕ) → AllAscend breaks → IsUtf8 token → IsMarked mark token (words_places breaks (text_words token)) (flat_map (marked_word breaks mark) (text_words token))
token_words laws breaks mark token a u =
    subst (λ t. IsMarked mark t (words_places breaks (text_words token)) (flat_map (marked_word breaks mark) (text_words token))) (laws.words_join token u)
    (words_marked laws breaks mark a token 0 (text_words token) u (laws.words token u))

pub unless : {mark text pa oa : List ℕ} (c : Bool) → IsMarked mark text pa oa → IsMarked mark text (if c then [] else pa) (if c then text else oa)
unless {mark} {text} true m = unmarked mark text
unless false m = m

pub token_marked : (laws : Laws) (breaks : Breaks) (mark token : List ℕ) → AllAscend breaks → IsUtf8 token → IsMarked mark token (token_places breaks token) (marked_token breaks mark token)
unfolding token_places marked_token
token_marked laws breaks mark token a u = unless (is_left_whole token) (token_words laws breaks mark token a u)

-- ---- texts

white_cases : (laws : Laws) (breaks : Breaks) (mark : List ℕ) (before after : Bool) (front : List ℕ) (b : ℕ) (bs : List ℕ) (c : Bool) → is_white_space b ≡ c → AllAscend breaks → IsUtf8 (front ++ b ∷ bs)
    → (IsUtf8 bs → IsMarked mark bs (tokens_places breaks false after [] bs) (marked_tokens breaks mark false after [] bs))
    → (IsUtf8 ((front ++ b ∷ []) ++ bs) → IsMarked mark ((front ++ b ∷ []) ++ bs) (tokens_places breaks before after (front ++ b ∷ []) bs) (marked_tokens breaks mark before after (front ++ b ∷ []) bs))
    → IsMarked mark (front ++ b ∷ bs)
    (if c then (if before then [] else token_places breaks front) ++ shifted (length front) (shifted 1 (tokens_places breaks false after [] bs)) else tokens_places breaks before after (front ++ b ∷ []) bs)
    (if c then (if before then front else marked_token breaks mark front) ++ b ∷ marked_tokens breaks mark false after [] bs else marked_tokens breaks mark before after (front ++ b ∷ []) bs)
white_cases laws breaks mark before after front b bs true e a u anew on =
    let low : b < 128 = white_is_ascii b e in
    let seam = seam_boundary front b bs (λ high. absurd (omega arith)) in
    let rest = rest_utf8 front (b ∷ bs) u seam in
    joined (unless before (token_marked laws breaks mark front a (front_utf8 front (b ∷ bs) u seam)))
    (joined (unmarked mark (b ∷ [])) (anew (past_white b bs rest low)))
white_cases laws breaks mark before after front b bs false e a u anew on =
    let same = append_assoc front (b ∷ []) bs in
    subst (λ t. IsMarked mark t (tokens_places breaks before after (front ++ b ∷ []) bs) (marked_tokens breaks mark before after (front ++ b ∷ []) bs)) same (on (subst IsUtf8 (sym same) u))

pub tokens_marked : (laws : Laws) (breaks : Breaks) (mark : List ℕ) (before after : Bool) (front text : List ℕ) → AllAscend breaks → IsUtf8 (front ++ text)
    → IsMarked mark (front ++ text) (tokens_places breaks before after front text) (marked_tokens breaks mark before after front text)
tokens_marked laws breaks mark before after front [] a u =
    let same = append-nil front in
    subst (λ t. IsMarked mark t (if before || after then [] else token_places breaks front) (if before || after then front else marked_token breaks mark front)) (sym same)
    (unless (before || after) (token_marked laws breaks mark front a (subst IsUtf8 same u)))
tokens_marked laws breaks mark before after front (b ∷ bs) a u =
    white_cases laws breaks mark before after front b bs (is_white_space b) refl a u (tokens_marked laws breaks mark false after [] bs a) (tokens_marked laws breaks mark before after (front ++ b ∷ []) bs a)

-- A text is marked at its places.
pub text_marked : (laws : Laws) (breaks : Breaks) (mark : List ℕ) (before after : Bool) (text : List ℕ) → AllAscend breaks → IsUtf8 text
    → IsMarked mark text (text_places breaks before after text) (marked_text breaks mark before after text)
text_marked laws breaks mark before after text a u =
    let tokens = tokens_marked laws breaks mark before after [] text a u in
    record { is = refl; within = tokens.within; parts = (tokens.parts.0, tokens.parts.1, tokens.parts.2 ∙ tokens.is) }
