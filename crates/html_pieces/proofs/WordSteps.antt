-- One byte more of a text that is cut at white space.
use Rattle.std.proofs.Common.{◌≡◌, ℕ, ◌+◌, ◌<◌, ◌≤◌, ◌||◌, true, false, List, [], ◌∷◌, ◌++◌, length, drop, slice_range, get_or, ap, sym, ◌∙◌, if◌then◌else◌, nat_eq}
use Rattle.std.specs.Cmp.Lexicographic.{pointwise}
use Rattle.html_pieces.specs.Bytes.{is_white_space}
use Rattle.html_pieces.specs.Elements.{has_word_from}
use Rattle.html_pieces.proofs.Slices.{drop_more, slice_more, slice_none}

pub word_on : (word text : List ℕ) (start i : ℕ) → start ≤ i → i < length text → is_white_space (get_or text i 0) ≡ false
    → has_word_from word (slice_range text start i) (drop i text) ≡ has_word_from word (slice_range text start (i + 1)) (drop (i + 1) text)
word_on word text start i le lt e =
    ap (has_word_from word (slice_range text start i)) (drop_more text i lt)
    ∙ ap (λ c. if c then pointwise nat_eq (slice_range text start i) word || has_word_from word [] (drop (i + 1) text) else has_word_from word (slice_range text start i ++ get_or text i 0 ∷ []) (drop (i + 1) text)) e
    ∙ ap (λ front. has_word_from word front (drop (i + 1) text)) (sym (slice_more text start i le lt))

pub word_ends : (word text : List ℕ) (start i : ℕ) → i < length text → is_white_space (get_or text i 0) ≡ true
    → has_word_from word (slice_range text start i) (drop i text) ≡ pointwise nat_eq (slice_range text start i) word || has_word_from word (slice_range text (i + 1) (i + 1)) (drop (i + 1) text)
word_ends word text start i lt e =
    ap (has_word_from word (slice_range text start i)) (drop_more text i lt)
    ∙ ap (λ c. if c then pointwise nat_eq (slice_range text start i) word || has_word_from word [] (drop (i + 1) text) else has_word_from word (slice_range text start i ++ get_or text i 0 ∷ []) (drop (i + 1) text)) e
    ∙ ap (λ front. pointwise nat_eq (slice_range text start i) word || has_word_from word front (drop (i + 1) text)) (sym (slice_none text (i + 1)))
