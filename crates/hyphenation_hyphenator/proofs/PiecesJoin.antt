-- All pieces of a text between word bounds together.
use Rattle.std.proofs.Common.{◌≡◌, ℕ, ◌+◌, List, [], ◌∷◌, ◌++◌, length, refl, sym, ap, subst, ◌∙◌, arith}
use Rattle.std.specs.List.{concat, flat_map}
use Rattle.std.specs.Str.{IsUtf8}
use Rattle.std.proofs.lemmas.Str.{IsUtf8-between}
use Rattle.unicode_segmentation.specs.Segments.{with_offsets}
use Rattle.unicode_segmentation.specs.Word.{word_bounds}
use Rattle.word_pieces.specs.Pieces.{AreSlices, PiecesAreSlices}

-- Each text of a list is UTF-8.
abbrev pub AreUtf8 : List (List ℕ) → Type 0
AreUtf8 [] = Unit {0}
AreUtf8 (t ∷ ts) = IsUtf8 t × AreUtf8 ts

slices_are_utf8 : (text : List ℕ) (at : ℕ) (pieces : List (List ℕ)) → IsUtf8 text → AreSlices text (with_offsets at pieces) → AreUtf8 pieces
unfolding with_offsets
slices_are_utf8 text at [] u slices = tt
slices_are_utf8 text at (piece ∷ pieces) u slices = (
  subst IsUtf8 (sym slices.0.bytes) (IsUtf8-between text at (at + length piece) u (omega arith) slices.0.start slices.0.end),
  slices_are_utf8 text (at + length piece) pieces u slices.1,
)

pub pieces_are_utf8 : PiecesAreSlices → (text : List ℕ) → IsUtf8 text → AreUtf8 (word_bounds text)
pieces_are_utf8 slices text u = slices_are_utf8 text 0 (word_bounds text) u (slices text u)

-- A function that leaves each piece as it is leaves all of them as they are.
pub each_stays : (f : List ℕ → List ℕ) → ((piece : List ℕ) → IsUtf8 piece → f piece ≡ piece) → (pieces : List (List ℕ)) → AreUtf8 pieces → flat_map f pieces ≡ concat pieces
each_stays f stays [] u = refl
each_stays f stays (piece ∷ pieces) u = ap (λ x. x ++ flat_map f pieces) (stays piece u.0) ∙ ap (λ xs. piece ++ xs) (each_stays f stays pieces u.1)
