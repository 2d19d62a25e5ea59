-- The pieces of a whole page: they join to it, and each is UTF-8.
use Rattle.std.proofs.Common.{◌≡◌, ℕ, ◌+◌, ◌≤◌, List, [], ◌∷◌, ◌++◌, length, refl, ap, sym, ◌∙◌, arith, append_assoc, append-nil, subst, Option, Some, None, length-append, get_or, nat_lt}
use Rattle.std.specs.Option.{option_map_or}
use Rattle.std.specs.Str.{IsUtf8, IsCharBoundary}
use Rattle.std.proofs.Math.Seq.{take-append_seam, drop-append_seam}
use Rattle.std.proofs.lemmas.Str.{IsUtf8-take, IsUtf8-drop}
use Rattle.html_pieces.specs.Bytes.{is_continuation}
use Rattle.html_pieces.specs.declared.bytes.PageForm.{PageForm}
use Rattle.html_pieces.specs.Pieces.{piece, pieces_from, pieces_of, state_after, next, begin, content_after, depth_after}
use Rattle.html_pieces.specs.Laws.{joined_pieces, AreUtf8}
use Rattle.html_pieces.specs.declared.tokenizer.State.{State}
use Rattle.html_pieces.specs.declared.tokenizer.State.TheVariants.{Data}
use Rattle.html_pieces.proofs.PieceSteps.{none_means, first_byte, after_piece}

front_utf8 : (front rest : List ℕ) → IsUtf8 (front ++ rest) → IsCharBoundary (front ++ rest) (length front) → IsUtf8 front
front_utf8 front rest u b = subst IsUtf8 (take-append_seam front rest) (IsUtf8-take (front ++ rest) (length front) u b)

pub rest_utf8 : (front rest : List ℕ) → IsUtf8 (front ++ rest) → IsCharBoundary (front ++ rest) (length front) → IsUtf8 rest
rest_utf8 front rest u b = subst IsUtf8 (drop-append_seam front rest) (IsUtf8-drop (front ++ rest) (length front) u b)

pub at_seam : (front : List ℕ) (b : ℕ) (bs : List ℕ) → get_or (front ++ b ∷ bs) (length front) 0 ≡ b
at_seam [] b bs = refl
at_seam (x ∷ front) b bs = at_seam front b bs

pub seam_boundary : (front : List ℕ) (b : ℕ) (bs : List ℕ) → (128 ≤ b → 192 ≤ b) → IsCharBoundary (front ++ b ∷ bs) (length front)
seam_boundary front b bs first =
    let n : length (front ++ b ∷ bs) ≡ length front + length (b ∷ bs) = length-append front (b ∷ bs) in
    let here = at_seam front b bs in
    (omega (arith, n), λ _ high. subst (λ x. 192 ≤ x) (sym here) (first (subst (λ x. 128 ≤ x) here high)))

join_cases : (form : PageForm) (depth : ℕ) (state : State) (front : List ℕ) (b : ℕ) (bs : List ℕ) (o : Option State)
    → ((after : State) → joined_pieces (pieces_from form depth after (front ++ b ∷ []) bs) ≡ (front ++ b ∷ []) ++ bs)
    → joined_pieces (after_piece form depth state front b bs) ≡ b ∷ bs
    → joined_pieces (option_map_or (λ after. pieces_from form depth after (front ++ b ∷ []) bs) o (piece state front ∷ after_piece form depth state front b bs)) ≡ front ++ b ∷ bs
join_cases form depth state front b bs None on anew = ap (λ xs. front ++ xs) anew
join_cases form depth state front b bs (Some after) on anew = on after ∙ append_assoc front (b ∷ []) bs

pub pieces_join : (form : PageForm) (depth : ℕ) (state : State) (front bs : List ℕ) → joined_pieces (pieces_from form depth state front bs) ≡ front ++ bs
pieces_join form depth state front [] = refl
pieces_join form depth state front (b ∷ bs) =
    join_cases form depth state front b bs (state_after form (nat_lt 0 depth) state front b) (λ after. pieces_join form depth after (front ++ b ∷ []) bs)
    (pieces_join form (depth_after depth state front) (begin (content_after form (nat_lt 0 depth) state front) b) (b ∷ []) bs)

pub pieces_join_to_page : (form : PageForm) (page : List ℕ) → joined_pieces (pieces_of form page) ≡ page
pieces_join_to_page form [] = refl
pieces_join_to_page form (b ∷ bs) = pieces_join form 0 (begin Data b) (b ∷ []) bs

utf8_cases : (form : PageForm) (depth : ℕ) (state : State) (front : List ℕ) (b : ℕ) (bs : List ℕ) (o : Option State) → state_after form (nat_lt 0 depth) state front b ≡ o → IsUtf8 (front ++ b ∷ bs)
    → ((after : State) → IsUtf8 ((front ++ b ∷ []) ++ bs) → AreUtf8 (pieces_from form depth after (front ++ b ∷ []) bs))
    → (IsUtf8 (b ∷ bs) → AreUtf8 (after_piece form depth state front b bs))
    → AreUtf8 (option_map_or (λ after. pieces_from form depth after (front ++ b ∷ []) bs) o (piece state front ∷ after_piece form depth state front b bs))
utf8_cases form depth state front b bs None e u on anew =
    let seam = seam_boundary front b bs (first_byte b (none_means (is_continuation b) state (next form (nat_lt 0 depth) state front b) e)) in
    (front_utf8 front (b ∷ bs) u seam, anew (rest_utf8 front (b ∷ bs) u seam))
utf8_cases form depth state front b bs (Some after) e u on anew = on after (subst IsUtf8 (sym (append_assoc front (b ∷ []) bs)) u)

pieces_utf8 : (form : PageForm) (depth : ℕ) (state : State) (front bs : List ℕ) → IsUtf8 (front ++ bs) → AreUtf8 (pieces_from form depth state front bs)
pieces_utf8 form depth state front [] u = (subst IsUtf8 (append-nil front) u, tt)
pieces_utf8 form depth state front (b ∷ bs) u =
    utf8_cases form depth state front b bs (state_after form (nat_lt 0 depth) state front b) refl u (λ after. pieces_utf8 form depth after (front ++ b ∷ []) bs)
    (pieces_utf8 form (depth_after depth state front) (begin (content_after form (nat_lt 0 depth) state front) b) (b ∷ []) bs)

pub page_utf8 : (form : PageForm) (page : List ℕ) → IsUtf8 page → AreUtf8 (pieces_of form page)
page_utf8 form [] u = tt
page_utf8 form (b ∷ bs) u = pieces_utf8 form 0 (begin Data b) (b ∷ []) bs u
