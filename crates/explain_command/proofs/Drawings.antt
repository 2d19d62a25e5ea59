-- The drawing of one word more.
use Rattle.std.proofs.Common.{◌≡◌, ℕ, ◌+◌, ◌<◌, List, [], ◌∷◌, ◌++◌, length, map, take, get_or, sym, ap, subst, ◌∙◌}
use Rattle.std.specs.Borrow.{Bor}
use Rattle.std.specs.List.{AllZip}
use Rattle.std.proofs.lemmas.List.{map_push, take_more}
use Rattle.std.proofs.lemmas.List.Elements.{AllZip-push}
use Rattle.hyphenation_breaks.specs.Borrowed.{texts_now}

pub drawn_more : {D : Type 0} (draws : List ℕ → List ℕ → Type 0) (v : D → List ℕ) (words : List (Bor (List ℕ))) (i : ℕ) (d : Bor (List ℕ)) (drawings next : List D) (drawing : D) → i < length words
    → AllZip draws (texts_now (take i words)) (map v drawings) → draws (get_or words i d).now (v drawing) → next ≡ drawings ++ drawing ∷ []
    → AllZip draws (texts_now (take (i + 1) words)) (map v next)
drawn_more draws v words i d drawings next drawing lt zip right push =
    let word : Bor (List ℕ) = get_or words i d in
    let words_are : texts_now (take (i + 1) words) ≡ texts_now (take i words) ++ word.now ∷ [] =
    ap texts_now (take_more words i d lt) ∙ map_push (λ (w : Bor (List ℕ)). w.now) (take i words) word in
    let drawings_are : map v next ≡ map v drawings ++ v drawing ∷ [] = ap (map v) push ∙ map_push v drawings drawing in
    let both = AllZip-push draws (texts_now (take i words)) (map v drawings) word.now (v drawing) zip right in
    subst (λ ws. AllZip draws ws (map v next)) (sym words_are) (subst (λ ds. AllZip draws (texts_now (take i words) ++ word.now ∷ []) ds) (sym drawings_are) both)
