-- With an empty mark, and plain breaks that fit each piece, hyphenating a text leaves it as it is.
use Rattle.std.proofs.Common.{◌≡◌, ℕ, List, [], ◌∷◌, ◌++◌, map, refl, ap, subst, ◌∙◌, append-nil}
use Rattle.std.specs.List.{concat}
use Rattle.std.specs.Str.{IsUtf8}
use Rattle.hyphenation_breaks.specs.Break.{Break, plain_break}
use Rattle.unicode_segmentation.specs.Word.{word_bounds}
use Rattle.word_pieces.specs.Pieces.{PiecesAreSlices, PiecesJoin}
use Rattle.hyphenation_segments.specs.Fits.{Fits}
use Rattle.hyphenation_segments.specs.Laws.{JoinsToText}
use Rattle.hyphenation_segments.specs.Segments.{marked_word, segments, marked_segments}
use Rattle.hyphenation_hyphenator.specs.Hyphenated.{hyphenated_text}
use Rattle.hyphenation_hyphenator.proofs.PiecesJoin.{pieces_are_utf8, each_stays}
use Rattle.hyphenation_hyphenator.proofs.PlainBreaks.{ArePlain}

places_alone : (breaks : List Break) → ArePlain breaks → breaks ≡ map plain_break (map (λ b. b.place) breaks)
places_alone [] p = refl
places_alone (b ∷ bs) p = ap (λ x. x ∷ bs) p.0 ∙ ap (λ xs. plain_break b.place ∷ xs) (places_alone bs p.1)

unmarked : (parts : List (List ℕ)) → concat (marked_segments [] parts) ≡ concat parts
unmarked [] = refl
unmarked (s ∷ []) = ap (λ x. x ++ []) (append-nil s)
unmarked (s ∷ (t ∷ ss)) = ap (λ x. x ++ concat (marked_segments [] (t ∷ ss))) (append-nil s) ∙ ap (λ xs. s ++ xs) (unmarked (t ∷ ss))

word_stays : (word : List ℕ) (breaks : List Break) → JoinsToText → Fits word breaks → ArePlain breaks → marked_word [] word breaks ≡ word
word_stays word breaks join fit p =
    let alone = places_alone breaks p in
    unmarked (segments word breaks) ∙ ap (λ bs. concat (segments word bs)) alone ∙ join word (map (λ b. b.place) breaks) (subst (Fits word) alone fit)

pub text_stays : (breaks : List ℕ → List Break) → PiecesAreSlices → PiecesJoin → JoinsToText → ((word : List ℕ) → IsUtf8 word → Fits word (breaks word)) → ((word : List ℕ) → ArePlain (breaks word))
    → (text : List ℕ) → IsUtf8 text → hyphenated_text breaks [] text ≡ text
text_stays breaks slices whole join fit are_plain text u =
    each_stays (λ piece. marked_word [] piece (breaks piece)) (λ piece v. word_stays piece (breaks piece) join (fit piece v) (are_plain piece)) (word_bounds text) (pieces_are_utf8 slices text u) ∙ whole text u
