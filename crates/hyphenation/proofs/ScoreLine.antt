-- Values joined by spaces.
use Rattle.std.proofs.Common.{◌≡◌, ℕ, suc, zero, ◌+◌, ◌<◌, List, [], ◌∷◌, ◌++◌, length, map, take, get_or, cond, eqb, refl, sym, ap, ◌∙◌, append_assoc, arith, length-take-le, Bool, false}
use Rattle.std.specs.Prelude.{decimal}
use Rattle.std.specs.List.{join_with_byte}
use Rattle.std.proofs.lemmas.List.{map_more, length-map}
use Rattle.std.proofs.lemmas.Bool.Decides.{nat_tests}
use Rattle.hyphenation.specs.Private.Engine.{space_before}

-- one text more
joined_more : (c : ℕ) (x : List ℕ) (xs : List (List ℕ)) (y : List ℕ) → join_with_byte c ((x ∷ xs) ++ y ∷ []) ≡ join_with_byte c (x ∷ xs) ++ (c ∷ y)
joined_more c x [] y = refl
joined_more c x (z ∷ zs) y = ap (λ (t : List ℕ). x ++ (c ∷ t)) (joined_more c z zs y) ∙ sym (append_assoc x (c ∷ join_with_byte c (z ∷ zs)) (c ∷ y))

after : (texts : List (List ℕ)) (i : ℕ) (y : List ℕ) → length texts ≡ i → join_with_byte 32 (texts ++ y ∷ []) ≡ join_with_byte 32 texts ++ space_before i ++ y
after [] zero y e = refl
after [] (suc i) y e = absurd (omega arith)
after (x ∷ xs) zero y e = absurd (omega arith)
after (x ∷ xs) (suc i) y e =
    let later : eqb (suc i) 0 ≡ false = grind (arith, nat_tests) in
    joined_more 32 x xs y ∙ sym (append_assoc (join_with_byte 32 (x ∷ xs)) (32 ∷ []) y) ∙ ap (λ (b : Bool). join_with_byte 32 (x ∷ xs) ++ cond b [] (32 ∷ []) ++ y) (sym later)

-- the value at i, after those before it
pub value_after : (values : List ℕ) (i d : ℕ) (line next : List ℕ) → i < length values → line ≡ join_with_byte 32 (map decimal (take i values)) → next ≡ line ++ space_before i ++ decimal (get_or values i d)
    → next ≡ join_with_byte 32 (map decimal (take (i + 1) values))
value_after values i d line next lt e is =
    let long : length (map decimal (take i values)) ≡ i = length-map (take i values) decimal ∙ length-take-le i values (omega arith) in
    is ∙ ap (λ (t : List ℕ). t ++ space_before i ++ decimal (get_or values i d)) e ∙ sym (after (map decimal (take i values)) i (decimal (get_or values i d)) long) ∙ ap (join_with_byte 32) (sym (map_more decimal values i d lt))
