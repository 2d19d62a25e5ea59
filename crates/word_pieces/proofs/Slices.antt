-- The pieces of a text between word bounds follow one another in it.
use Rattle.std.proofs.Common.{◌≡◌, ℕ, ◌+◌, ◌-◌, true, false, cond, List, [], ◌∷◌, ◌++◌, map, length, take, drop, refl, sym, ap, subst, ◌∙◌, arith, append_assoc, append-nil, take_at, drop_at, length-append}
use Rattle.std.specs.Prelude.{encode_utf8, encode_utf8_all}
use Rattle.std.specs.List.{concat}
use Rattle.std.specs.Str.{IsUtf8, IsCharBoundary, chars}
use Rattle.std.proofs.lemmas.Str.{encodes-append, encodes-chars, IsUtf8-past_char, IsCharBoundary-at_seam}
use Rattle.unicode_segmentation.specs.Segments.{Rule, prepend, cut, segments, with_offsets}
use Rattle.unicode_segmentation.specs.Word.{is_word_break}
use Rattle.word_pieces.specs.Pieces.{AreSlices, PiecesAreSlices, PiecesJoin}

-- The bytes of a part that is put in front, and of a part that is cut off.
front_bytes : (part : List ℕ) (pieces : List (List ℕ)) → concat (map encode_utf8_all (prepend part pieces)) ≡ encode_utf8_all part ++ concat (map encode_utf8_all pieces)
front_bytes part [] = refl
front_bytes part (cs ∷ pieces) = ap (λ xs. xs ++ concat (map encode_utf8_all pieces)) (encodes-append part cs) ∙ append_assoc (encode_utf8_all part) (encode_utf8_all cs) (concat (map encode_utf8_all pieces))

cut_bytes : (rule : Rule) (before cs after : List ℕ) → concat (map encode_utf8_all (cut rule before cs after)) ≡ encode_utf8_all cs
unfolding cut
cut_bytes rule before [] after = refl
cut_bytes rule before (c ∷ cs) after =
    let rest = cut rule (c ∷ before) cs after in
    let bytes = encode_utf8_all (c ∷ []) ++ concat (map encode_utf8_all rest) in
    elim (rule (c ∷ before) (cs ++ after)) as (λ b. concat (map encode_utf8_all (cond b ((c ∷ []) ∷ rest) (prepend (c ∷ []) rest))) ≡ bytes) [ true ↦ refl | false ↦ front_bytes (c ∷ []) rest ]
    ∙ ap (λ x. x ++ concat (map encode_utf8_all rest)) (append-nil (encode_utf8 c)) ∙ ap (λ xs. encode_utf8 c ++ xs) (cut_bytes rule (c ∷ before) cs after)

after_piece : (cs rest : List ℕ) → IsUtf8 (encode_utf8_all cs ++ rest) → IsUtf8 rest
after_piece [] rest u = u
after_piece (c ∷ cs) rest u = after_piece cs rest (IsUtf8-past_char _ _ c u (append_assoc (encode_utf8 c) (encode_utf8_all cs) rest))

-- Pieces that join to the rest of the text are slices of it.
stand : (text front : List ℕ) (pieces : List (List ℕ)) → text ≡ front ++ concat (map encode_utf8_all pieces) → IsUtf8 (concat (map encode_utf8_all pieces))
    → AreSlices text (with_offsets (length front) (map encode_utf8_all pieces))
unfolding with_offsets
stand text front [] is u = tt
stand text front (cs ∷ pieces) is u =
    let piece : List ℕ = encode_utf8_all cs in
    let rest : List ℕ = concat (map encode_utf8_all pieces) in
    let later : IsUtf8 rest = after_piece cs rest u in
    let past : text ≡ (front ++ piece) ++ rest = is ∙ sym (append_assoc front piece rest) in
    let wide : length (front ++ piece) ≡ length front + length piece = length-append front piece in
    let width : length piece ≡ length front + length piece - length front = omega arith in (
      record {
        start = IsCharBoundary-at_seam text front (piece ++ rest) is u;
        end = subst (IsCharBoundary text) wide (IsCharBoundary-at_seam text (front ++ piece) rest past later);
        bytes = sym (ap (λ t. take (length front + length piece - length front) (drop (length front) t)) is
            ∙ ap (take (length front + length piece - length front)) (drop_at front (piece ++ rest) (length front) refl) ∙ take_at piece rest (length front + length piece - length front) width);
      },
      subst (λ n. AreSlices text (with_offsets n (map encode_utf8_all pieces))) wide (stand text (front ++ piece) pieces past later),
    )

pub slices : PiecesAreSlices
unfolding segments
slices text u =
    let whole = cut_bytes is_word_break [] (chars text) [] ∙ encodes-chars text u in
    stand text [] (cut is_word_break [] (chars text) []) (sym whole) (subst IsUtf8 (sym whole) u)

pub join : PiecesJoin
unfolding segments
join text u = cut_bytes is_word_break [] (chars text) [] ∙ encodes-chars text u
