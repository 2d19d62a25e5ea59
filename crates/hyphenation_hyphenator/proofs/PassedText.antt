-- A text that is hyphenated piece by piece, where pieces without breaks are appended later.
use Rattle.std.proofs.Common.{◌≡◌, ℕ, ◌+◌, ◌-◌, List, [], ◌∷◌, ◌++◌, length, take, drop, slice_range, refl, sym, ap, subst, ◌∙◌, arith, append_assoc, append-nil, take_at, drop_at, length-append}
use Rattle.std.specs.List.{concat, flat_map}
use Rattle.std.specs.Str.{IsUtf8, IsCharBoundary}
use Rattle.std.proofs.lemmas.List.{take_all}
use Rattle.std.proofs.lemmas.Str.{IsCharBoundary-at_seam, IsUtf8-append, IsUtf8-nil}
use Rattle.unicode_segmentation.specs.Word.{word_bounds}
use Rattle.hyphenation_breaks.specs.Break.{Break}
use Rattle.hyphenation_segments.specs.Segments.{marked_word}
use Rattle.word_pieces.specs.Pieces.{PiecesAreSlices, PiecesJoin}
use Rattle.hyphenation_hyphenator.proofs.PiecesJoin.{AreUtf8, pieces_are_utf8}

-- The text is a front that is done, a part that was passed and not appended yet, and the pieces to come. The output, that
-- part and the pieces to come give the whole.
pub record IsPassed (text : List ℕ) (f : List ℕ → List ℕ) (whole output : List ℕ) (start at : ℕ) (left : List (List ℕ)) : Type 0 where
  pub front : List ℕ
  pub part : List ℕ
  pub text_is : text ≡ front ++ (part ++ concat left)
  pub start_is : start ≡ length front
  pub at_is : at ≡ length front + length part
  pub part_utf8 : IsUtf8 part
  pub left_utf8 : AreUtf8 left
  pub gives : output ++ (part ++ flat_map f left) ≡ whole

joined_utf8 : (pieces : List (List ℕ)) → AreUtf8 pieces → IsUtf8 (concat pieces)
joined_utf8 [] u = IsUtf8-nil
joined_utf8 (p ∷ ps) u = IsUtf8-append p (concat ps) u.0 (joined_utf8 ps u.1)

pub at_first : {text output : List ℕ} {f : List ℕ → List ℕ} {left : List (List ℕ)} → PiecesAreSlices → PiecesJoin → IsUtf8 text → output ≡ [] → left ≡ word_bounds text → IsPassed text f (flat_map f (word_bounds text)) output 0 0 left
at_first {text} {output} {f} {left} slices join u none all =
    record {
      front = [];
      part = [];
      text_is = sym (ap concat all ∙ join text u);
      start_is = refl;
      at_is = refl;
      part_utf8 = IsUtf8-nil;
      left_utf8 = subst AreUtf8 (sym all) (pieces_are_utf8 slices text u);
      gives = ap (λ x. x ++ flat_map f left) none ∙ ap (flat_map f) all;
    }

pub start_boundary : {text whole output : List ℕ} {f : List ℕ → List ℕ} {start at : ℕ} {left : List (List ℕ)} → IsPassed text f whole output start at left → IsCharBoundary text start
start_boundary {text} {left = left} h =
    subst (IsCharBoundary text) (sym h.start_is) (IsCharBoundary-at_seam text h.front (h.part ++ concat left) h.text_is (IsUtf8-append h.part (concat left) h.part_utf8 (joined_utf8 left h.left_utf8)))

pub at_boundary : {text whole output : List ℕ} {f : List ℕ → List ℕ} {start at : ℕ} {left : List (List ℕ)} → IsPassed text f whole output start at left → IsCharBoundary text at
at_boundary {text} {left = left} h =
    subst (IsCharBoundary text) (length-append h.front h.part ∙ sym h.at_is)
    (IsCharBoundary-at_seam text (h.front ++ h.part) (concat left) (h.text_is ∙ sym (append_assoc h.front h.part (concat left))) (joined_utf8 left h.left_utf8))

passed_part : {text whole output : List ℕ} {f : List ℕ → List ℕ} {start at : ℕ} {left : List (List ℕ)} (h : IsPassed text f whole output start at left) → slice_range text start at ≡ h.part
passed_part {text} {start = start} {at = at} {left = left} h =
    ap (λ t. take (at - start) (drop start t)) h.text_is
    ∙ ap (take (at - start)) (drop_at h.front (h.part ++ concat left) start (sym h.start_is))
    ∙ take_at h.part (concat left) (at - start) (omega (arith, h.start_is, h.at_is))

-- A piece without breaks stays as it is.
unbroken : (mark piece : List ℕ) → marked_word mark piece [] ≡ piece
unbroken mark piece = append-nil _ ∙ append-nil _ ∙ append-nil _ ∙ take_all _ piece (omega arith)

-- A piece without breaks was passed.
pub passes_piece : (mark : List ℕ) (breaks_of : List ℕ → List Break) {text whole output : List ℕ} {start at end : ℕ} {piece : List ℕ} {left rest : List (List ℕ)} → left ≡ piece ∷ rest
    → end ≡ at + length piece → breaks_of piece ≡ []
    → IsPassed text (λ x. marked_word mark x (breaks_of x)) whole output start at left → IsPassed text (λ x. marked_word mark x (breaks_of x)) whole output start end rest
passes_piece mark breaks_of {text} {whole} {output} {start = start} {at = at} {piece = piece} {rest = rest} left_is end_is none before =
    let f : List ℕ → List ℕ = λ x. marked_word mark x (breaks_of x) in
    let stays : f piece ≡ piece = ap (marked_word mark piece) none ∙ unbroken mark piece in
    let h : IsPassed text f whole output start at (piece ∷ rest) = subst (IsPassed text f whole output start at) left_is before in
    record {
      front = h.front;
      part = h.part ++ piece;
      text_is = h.text_is ∙ ap (λ x. h.front ++ x) (sym (append_assoc h.part piece (concat rest)));
      start_is = h.start_is;
      at_is = omega (arith, end_is, h.at_is, length-append h.part piece);
      part_utf8 = IsUtf8-append h.part piece h.part_utf8 h.left_utf8.0;
      left_utf8 = h.left_utf8.1;
      gives = ap (λ x. output ++ x) (append_assoc h.part piece (flat_map f rest) ∙ ap (λ x. h.part ++ (x ++ flat_map f rest)) (sym stays)) ∙ h.gives;
    }

-- A piece with breaks is appended, after the part that was passed.
pub appends_piece : (mark : List ℕ) (breaks_of : List ℕ → List Break) {text whole output passed after : List ℕ} {breaks : List Break} {start at end : ℕ} {piece : List ℕ} {left rest : List (List ℕ)} → left ≡ piece ∷ rest
    → end ≡ at + length piece → breaks ≡ breaks_of piece → passed ≡ output ++ slice_range text start at → after ≡ passed ++ marked_word mark piece breaks
    → IsPassed text (λ x. marked_word mark x (breaks_of x)) whole output start at left → IsPassed text (λ x. marked_word mark x (breaks_of x)) whole after end end rest
appends_piece mark breaks_of {text} {whole} {output} {passed} {after} {breaks} {start} {at} {piece = piece} {rest = rest} left_is end_is breaks_are first second before =
    let f : List ℕ → List ℕ = λ x. marked_word mark x (breaks_of x) in
    let h : IsPassed text f whole output start at (piece ∷ rest) = subst (IsPassed text f whole output start at) left_is before in
    let wide : length (h.front ++ (h.part ++ piece)) ≡ length h.front + (length h.part + length piece) = length-append h.front (h.part ++ piece) ∙ ap (λ n. length h.front + n) (length-append h.part piece) in
    let now : after ≡ (output ++ h.part) ++ f piece =
    second ∙ ap (λ bs. passed ++ marked_word mark piece bs) breaks_are ∙ ap (λ x. x ++ f piece) (first ∙ ap (λ x. output ++ x) (passed_part h)) in
    record {
      front = h.front ++ (h.part ++ piece);
      part = [];
      text_is = h.text_is ∙ ap (λ x. h.front ++ x) (sym (append_assoc h.part piece (concat rest))) ∙ sym (append_assoc h.front (h.part ++ piece) (concat rest));
      start_is = omega (arith, end_is, h.at_is, wide);
      at_is = omega (arith, end_is, h.at_is, wide);
      part_utf8 = IsUtf8-nil;
      left_utf8 = h.left_utf8.1;
      gives = ap (λ x. x ++ flat_map f rest) now ∙ append_assoc (output ++ h.part) (f piece) (flat_map f rest) ∙ append_assoc output h.part (f piece ++ flat_map f rest) ∙ h.gives;
    }

-- At the end the part that was passed is all that is left of the text.
pub appends_rest : {text whole output after : List ℕ} {f : List ℕ → List ℕ} {start at : ℕ} {left : List (List ℕ)} → left ≡ [] → after ≡ output ++ drop start text → IsPassed text f whole output start at left → after ≡ whole
appends_rest {text} {whole} {output} {f = f} {start = start} {at = at} left_is is before =
    let h : IsPassed text f whole output start at [] = subst (IsPassed text f whole output start at) left_is before in
    is ∙ ap (λ x. output ++ x) (ap (drop start) h.text_is ∙ drop_at h.front (h.part ++ []) start (sym h.start_is)) ∙ h.gives
