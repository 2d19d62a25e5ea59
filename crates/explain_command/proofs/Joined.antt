-- The text of one word more.
use Rattle.std.proofs.Common.{◌≡◌, ℕ, suc, zero, ◌+◌, ◌<◌, List, [], ◌∷◌, ◌++◌, length, take, get_or, cond, eqb, refl, sym, ap, subst, ◌∙◌, append_assoc, arith, length-take-le, Bool, false}
use Rattle.std.specs.Borrow.{Bor}
use Rattle.std.specs.List.{AllZip, join_with_byte}
use Rattle.std.proofs.lemmas.Bool.Decides.{nat_tests}
use Rattle.std.proofs.lemmas.List.{length-map, map_push, take_more}
use Rattle.std.proofs.lemmas.List.Elements.{AllZip-push, length_all_zip}
use Rattle.hyphenation_breaks.specs.Borrowed.{texts_now}
use Rattle.explain_command.specs.Explained.{AreJoined}
use Rattle.explain_command.specs.Private.Joined.{gap_before}

-- One text more.
joined_more : (c : ℕ) (x : List ℕ) (xs : List (List ℕ)) (y : List ℕ) → join_with_byte c ((x ∷ xs) ++ y ∷ []) ≡ join_with_byte c (x ∷ xs) ++ (c ∷ y)
joined_more c x [] y = refl
joined_more c x (z ∷ zs) y = ap (λ (t : List ℕ). x ++ (c ∷ t)) (joined_more c z zs y) ∙ sym (append_assoc x (c ∷ join_with_byte c (z ∷ zs)) (c ∷ y))

after : (texts : List (List ℕ)) (i : ℕ) (y : List ℕ) → length texts ≡ i → join_with_byte 10 (texts ++ y ∷ []) ≡ join_with_byte 10 texts ++ (gap_before i ++ y)
after [] zero y e = refl
after [] (suc i) y e = absurd (omega arith)
after (x ∷ xs) zero y e = absurd (omega arith)
after (x ∷ xs) (suc i) y e =
    let later : eqb (suc i) 0 ≡ false = grind (arith, nat_tests) in
    joined_more 10 x xs y ∙ ap (λ (b : Bool). join_with_byte 10 (x ∷ xs) ++ (cond b [] (10 ∷ []) ++ y)) (sym later)

-- The text of the word at i, after those before it.
pub joined_word : (explains : List ℕ → List ℕ → Type 0) (words : List (Bor (List ℕ))) (i : ℕ) (d : Bor (List ℕ)) (text next piece : List ℕ) → i < length words
    → AreJoined explains (texts_now (take i words)) text → explains (get_or words i d).now piece → next ≡ text ++ (gap_before i ++ piece)
    → AreJoined explains (texts_now (take (i + 1) words)) next
joined_word explains words i d text next piece lt (texts, zip, is) right push =
    let word : Bor (List ℕ) = get_or words i d in
    let words_are : texts_now (take (i + 1) words) ≡ texts_now (take i words) ++ word.now ∷ [] =
    ap texts_now (take_more words i d lt) ∙ map_push (λ (w : Bor (List ℕ)). w.now) (take i words) word in
    let count : length texts ≡ i = omega (arith, length_all_zip explains (texts_now (take i words)) texts zip, length-map (take i words) (λ (w : Bor (List ℕ)). w.now), length-take-le i words (omega arith)) in (
      texts ++ piece ∷ [],
      subst (λ ws. AllZip explains ws (texts ++ piece ∷ [])) (sym words_are) (AllZip-push explains (texts_now (take i words)) texts word.now piece zip right),
      push ∙ ap (λ t. t ++ (gap_before i ++ piece)) is ∙ sym (after texts i piece count),
    )
