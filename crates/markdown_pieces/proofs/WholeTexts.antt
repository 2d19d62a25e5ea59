-- The pieces of a whole text: they join to it, and each is UTF-8.
use Rattle.std.proofs.Common.{◌≡◌, ℕ, ◌+◌, ◌≤◌, List, [], ◌∷◌, ◌++◌, length, refl, ap, sym, ◌∙◌, arith, append_assoc, append-nil, subst, Bool, true, false, length-append, get_or, if◌then◌else◌}
use Rattle.std.specs.Str.{IsUtf8, IsCharBoundary}
use Rattle.std.proofs.Math.Seq.{take-append_seam, drop-append_seam}
use Rattle.std.proofs.lemmas.Str.{IsUtf8-take, IsUtf8-drop}
use Rattle.markdown_pieces.specs.Laws.{joined_pieces, AreUtf8}
use Rattle.markdown_pieces.specs.Pieces.{piece, pieces_from, pieces_of, kind_of, kind_after, state_after, is_same_kind}
use Rattle.markdown_pieces.specs.States.{first_state, next}
use Rattle.markdown_pieces.specs.declared.cutting.PieceKind.{PieceKind}
use Rattle.markdown_pieces.specs.declared.state.State.{State}
use Rattle.markdown_pieces.proofs.PieceSteps.{begins_character}

front_utf8 : (front rest : List ℕ) → IsUtf8 (front ++ rest) → IsCharBoundary (front ++ rest) (length front) → IsUtf8 front
front_utf8 front rest u b = subst IsUtf8 (take-append_seam front rest) (IsUtf8-take (front ++ rest) (length front) u b)

rest_utf8 : (front rest : List ℕ) → IsUtf8 (front ++ rest) → IsCharBoundary (front ++ rest) (length front) → IsUtf8 rest
rest_utf8 front rest u b = subst IsUtf8 (drop-append_seam front rest) (IsUtf8-drop (front ++ rest) (length front) u b)

at_seam : (front : List ℕ) (b : ℕ) (bs : List ℕ) → get_or (front ++ b ∷ bs) (length front) 0 ≡ b
at_seam [] b bs = refl
at_seam (x ∷ front) b bs = at_seam front b bs

seam_boundary : (front : List ℕ) (b : ℕ) (bs : List ℕ) → (128 ≤ b → 192 ≤ b) → IsCharBoundary (front ++ b ∷ bs) (length front)
seam_boundary front b bs first =
    let n : length (front ++ b ∷ bs) ≡ length front + length (b ∷ bs) = length-append front (b ∷ bs) in
    let here = at_seam front b bs in
    (omega (arith, n), λ _ high. subst (λ x. 192 ≤ x) (sym here) (first (subst (λ x. 128 ≤ x) here high)))

join_cases : (state : State) (kind after : PieceKind) (front : List ℕ) (b : ℕ) (bs : List ℕ) (c : Bool)
    → joined_pieces (pieces_from state kind (front ++ b ∷ []) bs) ≡ (front ++ b ∷ []) ++ bs → joined_pieces (pieces_from state after (b ∷ []) bs) ≡ b ∷ bs
    → joined_pieces (if c then pieces_from state kind (front ++ b ∷ []) bs else piece kind front ∷ pieces_from state after (b ∷ []) bs) ≡ front ++ b ∷ bs
join_cases state kind after front b bs true on anew = on ∙ append_assoc front (b ∷ []) bs
join_cases state kind after front b bs false on anew = ap (λ xs. front ++ xs) anew

join_from : (state : State) (kind : PieceKind) (front bs : List ℕ) → joined_pieces (pieces_from state kind front bs) ≡ front ++ bs
join_from state kind front [] = refl
join_from state kind front (b ∷ bs) =
    join_cases (state_after state b) kind (kind_after state kind b) front b bs (is_same_kind kind (kind_after state kind b))
    (join_from (state_after state b) kind (front ++ b ∷ []) bs) (join_from (state_after state b) (kind_after state kind b) (b ∷ []) bs)

pub pieces_join_to_text : (text : List ℕ) → joined_pieces (pieces_of text) ≡ text
pieces_join_to_text [] = refl
pieces_join_to_text (b ∷ bs) = join_from (next first_state b) (kind_of first_state b) (b ∷ []) bs

utf8_cases : (state : State) (kind : PieceKind) (front : List ℕ) (b : ℕ) (bs : List ℕ) (c : Bool) → is_same_kind kind (kind_after state kind b) ≡ c → IsUtf8 (front ++ b ∷ bs)
    → (IsUtf8 ((front ++ b ∷ []) ++ bs) → AreUtf8 (pieces_from (state_after state b) kind (front ++ b ∷ []) bs))
    → (IsUtf8 (b ∷ bs) → AreUtf8 (pieces_from (state_after state b) (kind_after state kind b) (b ∷ []) bs))
    → AreUtf8 (if c then pieces_from (state_after state b) kind (front ++ b ∷ []) bs else piece kind front ∷ pieces_from (state_after state b) (kind_after state kind b) (b ∷ []) bs)
utf8_cases state kind front b bs true e u on anew = on (subst IsUtf8 (sym (append_assoc front (b ∷ []) bs)) u)
utf8_cases state kind front b bs false e u on anew =
    let seam = seam_boundary front b bs (begins_character state kind b e) in
    (front_utf8 front (b ∷ bs) u seam, anew (rest_utf8 front (b ∷ bs) u seam))

utf8_from : (state : State) (kind : PieceKind) (front bs : List ℕ) → IsUtf8 (front ++ bs) → AreUtf8 (pieces_from state kind front bs)
utf8_from state kind front [] u = (subst IsUtf8 (append-nil front) u, tt)
utf8_from state kind front (b ∷ bs) u =
    utf8_cases state kind front b bs (is_same_kind kind (kind_after state kind b)) refl u
    (utf8_from (state_after state b) kind (front ++ b ∷ []) bs) (utf8_from (state_after state b) (kind_after state kind b) (b ∷ []) bs)

pub text_utf8 : (text : List ℕ) → IsUtf8 text → AreUtf8 (pieces_of text)
text_utf8 [] u = tt
text_utf8 (b ∷ bs) u = utf8_from (next first_state b) (kind_of first_state b) (b ∷ []) bs u
