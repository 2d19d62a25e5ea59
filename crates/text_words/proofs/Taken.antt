-- Words that are taken from the front.
use Rattle.std.proofs.Common.{◌≡◌, ℕ, true, false, List, [], ◌∷◌, ◌++◌, length, refl, ap, arith, if◌then◌else◌}
use Rattle.text_words.specs.Words.{is_sign, words_after, words_of_piece}

-- A word is taken from a piece.
pub taken : (rest word later : List ℕ) (others : List (List ℕ)) → words_of_piece rest ≡ word ∷ words_of_piece later
    → words_of_piece rest ++ others ≡ word ∷ (words_of_piece later ++ others)
taken rest word later others e = ap (λ ws. ws ++ others) e

-- A piece of one byte is one word.
pub one_byte : (piece : List ℕ) → length piece ≡ 1 → words_of_piece piece ≡ piece ∷ []
one_byte [] one = absurd (omega (arith, one))
one_byte (b ∷ []) one = elim (is_sign b) as (λ c. (if c then (b ∷ []) ∷ words_after [] [] else words_after (b ∷ []) []) ≡ (b ∷ []) ∷ []) [ true ↦ refl | false ↦ refl ]
one_byte (b ∷ c ∷ bs) one = absurd (omega (arith, one))
