-- The words of a text follow one another in it.
use Rattle.std.proofs.Common.{if◌then◌else◌, ◌≡◌, ℕ, ◌+◌, ◌-◌, ◌<◌, true, false, List, [], ◌∷◌, ◌++◌, length, take, drop, get_or, refl, sym, ap, subst, ◌∙◌, arith, append_assoc, append-nil, add-zero, take_at, drop_at, length-append}
use Rattle.std.specs.List.{concat, flat_map}
use Rattle.std.specs.Str.{IsUtf8, IsCharBoundary}
use Rattle.std.proofs.lemmas.List.Folds.{concat-append}
use Rattle.std.proofs.lemmas.List.{get_or-drop}
use Rattle.std.proofs.lemmas.Str.{IsUtf8-append, IsUtf8-nil, IsUtf8-take, IsUtf8-drop, IsUtf8-between, IsCharBoundary-at_seam, IsCharBoundary-before_ascii, IsCharBoundary-after_ascii}
use Rattle.unicode_segmentation.specs.Segments.{with_offsets}
use Rattle.unicode_segmentation.specs.Word.{word_bounds}
use Rattle.word_pieces.specs.Pieces.{AreSlices, PiecesAreSlices, PiecesJoin}
use Rattle.text_words.specs.Words.{is_sign, if_any, words_after, words_of_piece, text_words, WordsAreSlices, WordsJoin}

-- ---- words join

any_joined : (begun : List ℕ) → concat (if_any begun) ≡ begun
any_joined [] = refl
any_joined (b ∷ bs) = append-nil (b ∷ bs)

joined : (begun rest : List ℕ) → concat (words_after begun rest) ≡ begun ++ rest
joined begun [] = any_joined begun ∙ sym (append-nil begun)
joined begun (b ∷ bs) =
    elim (is_sign b) as (λ c. concat (if c then if_any begun ++ (b ∷ []) ∷ words_after [] bs else words_after (begun ++ b ∷ []) bs) ≡ begun ++ b ∷ bs) [
      | true ↦ concat-append (if_any begun) ((b ∷ []) ∷ words_after [] bs) ∙ ap (λ xs. xs ++ b ∷ concat (words_after [] bs)) (any_joined begun) ∙ ap (λ xs. begun ++ b ∷ xs) (joined [] bs)
      | false ↦ joined (begun ++ b ∷ []) bs ∙ append_assoc begun (b ∷ []) bs
    ]

all_joined : (pieces : List (List ℕ)) → concat (flat_map words_of_piece pieces) ≡ concat pieces
all_joined [] = refl
all_joined (p ∷ ps) = concat-append (words_of_piece p) (flat_map words_of_piece ps) ∙ ap (λ xs. xs ++ concat (flat_map words_of_piece ps)) (joined [] p) ∙ ap (λ xs. p ++ xs) (all_joined ps)

pub join : PiecesJoin → WordsJoin
unfolding text_words
join pieces text u = all_joined (word_bounds text) ∙ pieces text u

-- ---- words are of whole characters

abbrev AreUtf8 : List (List ℕ) → Type 0
AreUtf8 [] = Unit {0}
AreUtf8 (w ∷ ws) = IsUtf8 w × AreUtf8 ws

utf8_concat : (ws : List (List ℕ)) → AreUtf8 ws → IsUtf8 (concat ws)
utf8_concat [] u = IsUtf8-nil
utf8_concat (w ∷ ws) u = IsUtf8-append w (concat ws) u.0 (utf8_concat ws u.1)

utf8_both : (vs ws : List (List ℕ)) → AreUtf8 vs → AreUtf8 ws → AreUtf8 (vs ++ ws)
utf8_both [] ws u v = v
utf8_both (w ∷ vs) ws u v = (u.0, utf8_both vs ws u.1 v)

utf8_any : (begun : List ℕ) → IsUtf8 begun → AreUtf8 (if_any begun)
utf8_any [] u = tt
utf8_any (b ∷ bs) u = (u, tt)

sign_is_ascii : (b : ℕ) → is_sign b ≡ true → b < 128
sign_is_ascii b e = grind (arith, e)

-- A text of whole characters, parted at a sign.
pub record Parted (begun : List ℕ) (b : ℕ) (bs : List ℕ) : Type 0 where
  pub front : IsUtf8 begun
  pub sign : IsUtf8 (b ∷ [])
  pub later : IsUtf8 bs

parted : (begun : List ℕ) (b : ℕ) (bs : List ℕ) → b < 128 → IsUtf8 (begun ++ b ∷ bs) → Parted begun b bs
parted begun b bs low u =
    let whole : List ℕ = begun ++ b ∷ bs in
    let inside : length begun < length whole = omega (arith, length-append begun (b ∷ bs)) in
    let byte : get_or whole (length begun) 0 ≡ b = ap (λ n. get_or whole n 0) (sym (add-zero (length begun))) ∙ sym (get_or-drop (length begun) whole 0 0) ∙ ap (λ xs. get_or xs 0 0) (drop_at begun (b ∷ bs) (length begun) refl) in
    let before : IsCharBoundary whole (length begun) = IsCharBoundary-before_ascii whole (length begun) inside (omega (arith, byte, low)) in
    let rest : IsUtf8 (b ∷ bs) = subst IsUtf8 (drop_at begun (b ∷ bs) (length begun) refl) (IsUtf8-drop whole (length begun) u before) in
    record {
      front = subst IsUtf8 (take_at begun (b ∷ bs) (length begun) refl) (IsUtf8-take whole (length begun) u before);
      sign = IsUtf8-take (b ∷ bs) 1 rest (IsCharBoundary-after_ascii (b ∷ bs) 0 rest (omega arith) low);
      later = IsUtf8-drop (b ∷ bs) 1 rest (IsCharBoundary-after_ascii (b ∷ bs) 0 rest (omega arith) low);
    }

utf8_words : (begun rest : List ℕ) → IsUtf8 (begun ++ rest) → AreUtf8 (words_after begun rest)
utf8_words begun [] u = utf8_any begun (subst IsUtf8 (append-nil begun) u)
utf8_words begun (b ∷ bs) u =
    elim (is_sign b) as (λ c. is_sign b ≡ c → AreUtf8 (if c then if_any begun ++ (b ∷ []) ∷ words_after [] bs else words_after (begun ++ b ∷ []) bs)) [
      | true ↦ λ e. let p = parted begun b bs (sign_is_ascii b e) u in utf8_both (if_any begun) ((b ∷ []) ∷ words_after [] bs) (utf8_any begun p.front) (p.sign, utf8_words [] bs p.later)
      | false ↦ λ e. utf8_words (begun ++ b ∷ []) bs (subst IsUtf8 (sym (append_assoc begun (b ∷ []) bs)) u)
    ] refl

utf8_pieces : (text : List ℕ) (at : ℕ) (pieces : List (List ℕ)) → IsUtf8 text → AreSlices text (with_offsets at pieces) → AreUtf8 (flat_map words_of_piece pieces)
unfolding with_offsets
utf8_pieces text at [] u s = tt
utf8_pieces text at (p ∷ ps) u s =
    let piece : IsUtf8 p = subst IsUtf8 (sym s.0.bytes) (IsUtf8-between text at (at + length p) u (omega arith) s.0.start s.0.end) in
    utf8_both (words_of_piece p) (flat_map words_of_piece ps) (utf8_words [] p piece) (utf8_pieces text (at + length p) ps u s.1)

-- ---- words are slices

stand : (text front : List ℕ) (ws : List (List ℕ)) → text ≡ front ++ concat ws → AreUtf8 ws → AreSlices text (with_offsets (length front) ws)
unfolding with_offsets
stand text front [] is u = tt
stand text front (w ∷ ws) is u =
    let rest : List ℕ = concat ws in
    let past : text ≡ (front ++ w) ++ rest = is ∙ sym (append_assoc front w rest) in
    let wide : length (front ++ w) ≡ length front + length w = length-append front w in
    let width : length w ≡ length front + length w - length front = omega arith in (
      record {
        start = IsCharBoundary-at_seam text front (w ++ rest) is (utf8_concat (w ∷ ws) u);
        end = subst (IsCharBoundary text) wide (IsCharBoundary-at_seam text (front ++ w) rest past (utf8_concat ws u.1));
        bytes = sym (ap (λ t. take (length front + length w - length front) (drop (length front) t)) is
            ∙ ap (take (length front + length w - length front)) (drop_at front (w ++ rest) (length front) refl) ∙ take_at w rest (length front + length w - length front) width);
      },
      subst (λ n. AreSlices text (with_offsets n ws)) wide (stand text (front ++ w) ws past u.1),
    )

pub slices : PiecesAreSlices → PiecesJoin → WordsAreSlices
unfolding text_words
slices pieces joins text u = stand text [] (text_words text) (sym (join joins text u)) (utf8_pieces text 0 (word_bounds text) u (pieces text u))
