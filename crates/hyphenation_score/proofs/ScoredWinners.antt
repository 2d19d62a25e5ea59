-- The scores of borrowed winners.
use Rattle.std.proofs.Common.{◌≡◌, ℕ, ◌+◌, ◌<◌, List, [], ◌∷◌, ◌++◌, length, map, take, get_or, Option, Bor, option_copied, refl, sym, ap, ◌∙◌}
use Rattle.std.proofs.lemmas.List.{take_more, map-append}
use Rattle.hyphenation_breaks.specs.Break.{Change}
use Rattle.hyphenation_breaks.specs.declared.entry.Entry.{Entry}
use Rattle.hyphenation_score.specs.Scoring.{score_of_winner}

-- One more score.
pub mapped_more : {X Y W : Type 0} (m : X → Y) (f : W → Y) (xs : List W) (i : ℕ) (x : W) (items new : List X) (made : X) → i < length xs → x ≡ get_or xs i x
    → map m items ≡ map f (take i xs) → m made ≡ f x → new ≡ items ++ made ∷ [] → map m new ≡ map f (take (i + 1) xs)
mapped_more {X} {Y} {W} m f xs i x items new made lt at is e n =
    ap (map m) n ∙ map-append m items (made ∷ []) ∙ ap (λ ys. ys ++ m made ∷ []) is ∙ ap (λ (y : Y). map f (take i xs) ++ y ∷ []) (e ∙ ap f at)
    ∙ sym (ap (map f) (take_more xs i x lt) ∙ map-append f (take i xs) (get_or xs i x ∷ []))

-- The scores of all borrowed winners.
pub scored_winners : {C : Type 0} (change_of : C → Option Change) (lent : List (Option (Bor (Entry C)))) → map (λ winner. score_of_winner change_of (option_copied winner)) lent ≡ map (score_of_winner change_of) (map option_copied lent)
scored_winners change_of [] = refl
scored_winners change_of (w ∷ ws) = ap (λ rest. score_of_winner change_of (option_copied w) ∷ rest) (scored_winners change_of ws)
