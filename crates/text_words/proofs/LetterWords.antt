-- Letters are one word, and may be broken.
use Rattle.std.proofs.Common.{◌≡◌, ℕ, ◌||◌, true, false, List, [], ◌∷◌, refl, ap, ◌∙◌, arith, append-nil}
use Rattle.std.specs.Char.{is_ascii_alphabetic, is_ascii_digit}
use Rattle.std.specs.List.{flat_map, list_all, list_any}
use Rattle.std.proofs.lemmas.Bool.{and_parts}
use Rattle.word_pieces.specs.Pieces.{LettersAreOnePiece}
use Rattle.text_words.specs.Words.{is_sign, words_of_piece, text_words, LettersAreOneWord}
use Rattle.text_words.proofs.Unsigned.{go_on, no_digit}

letter_is_no_sign : (b : ℕ) → is_ascii_alphabetic b ≡ true → is_sign b ≡ false
letter_is_no_sign b e = grind (arith, e)

letter_is_no_digit : (b : ℕ) → is_ascii_alphabetic b ≡ true → is_ascii_digit b ≡ false
letter_is_no_digit b e = grind (arith, e)

no_sign : (text : List ℕ) → list_all is_ascii_alphabetic text ≡ true → list_any is_sign text ≡ false
no_sign [] all = refl
no_sign (b ∷ bs) all =
    let letter = and_parts (is_ascii_alphabetic b) (list_all is_ascii_alphabetic bs) all in
    ap (λ c. c || list_any is_sign bs) (letter_is_no_sign b letter.0) ∙ no_sign bs letter.1

no_digits : (text : List ℕ) → list_all is_ascii_alphabetic text ≡ true → list_any is_ascii_digit text ≡ false
no_digits [] all = refl
no_digits (b ∷ bs) all =
    let letter = and_parts (is_ascii_alphabetic b) (list_all is_ascii_alphabetic bs) all in
    ap (λ c. c || list_any is_ascii_digit bs) (letter_is_no_digit b letter.0) ∙ no_digits bs letter.1

pub one_word : LettersAreOnePiece → LettersAreOneWord
unfolding text_words
one_word piece [] some all = absurd (omega (arith, some))
one_word piece (b ∷ bs) some all =
    let whole : List ℕ = b ∷ bs in
    (ap (flat_map words_of_piece) (piece whole some all) ∙ append-nil (words_of_piece whole) ∙ go_on [] whole (no_sign whole all), no_digit whole (no_digits whole all))
