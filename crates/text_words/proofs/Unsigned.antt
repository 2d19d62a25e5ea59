-- Words without signs and digits.
use Rattle.std.proofs.Common.{◌≡◌, ℕ, ◌<◌, ◌&&◌, ◌||◌, Bool, true, false, List, [], ◌∷◌, ◌++◌, length, refl, sym, ap, ◌∙◌, arith, append_assoc, append-nil, if◌then◌else◌}
use Rattle.std.specs.Char.{is_ascii_digit}
use Rattle.std.specs.List.{list_any}
use Rattle.text_words.specs.Words.{is_mixed, is_mixed_after, is_of_letter, is_sign, if_any, words_after, words_of_piece}

-- Neither of two tests passes.
pub record Neither (a b : Bool) : Type 0 where
  pub first : a ≡ false
  pub second : b ≡ false

neither : (a b : Bool) → a || b ≡ false → Neither a b
neither true b e = cc
neither false b e = record { first = refl; second = e }

-- Bytes that are no sign go on with the word that is begun.
pub go_on : (begun rest : List ℕ) → list_any is_sign rest ≡ false → words_after begun rest ≡ if_any (begun ++ rest)
go_on begun [] none = ap if_any (sym (append-nil begun))
go_on begun (b ∷ bs) none =
    let each = neither (is_sign b) (list_any is_sign bs) none in
    ap (λ c. if c then if_any begun ++ (b ∷ []) ∷ words_after [] bs else words_after (begun ++ b ∷ []) bs) each.first
    ∙ go_on (begun ++ b ∷ []) bs each.second ∙ ap if_any (append_assoc begun (b ∷ []) bs)

-- A piece without a sign is one word.
pub unsigned : (piece : List ℕ) → list_any is_sign piece ≡ false → 0 < length piece → words_of_piece piece ≡ piece ∷ []
unsigned [] none some = absurd (omega (arith, some))
unsigned (b ∷ bs) none some = go_on [] (b ∷ bs) none

apart : (a b c : Bool) (before : ℕ) → is_ascii_digit before ≡ false → c ≡ false → (a && c) || (is_ascii_digit before && b) ≡ false
apart true b c before low e = ap (λ x. x || (is_ascii_digit before && b)) e ∙ ap (λ x. x && b) low
apart false b c before low e = ap (λ x. x && b) low

-- A word without a digit has no letter beside one.
pub not_mixed : (before : ℕ) (text : List ℕ) → is_ascii_digit before ≡ false → list_any is_ascii_digit text ≡ false → is_mixed_after before text ≡ false
not_mixed before [] low none = refl
not_mixed before (b ∷ bs) low none =
    let each = neither (is_ascii_digit b) (list_any is_ascii_digit bs) none in
    ap (λ c. c || is_mixed_after b bs) (apart (is_of_letter before) (is_of_letter b) (is_ascii_digit b) before low each.first) ∙ not_mixed b bs each.first each.second

pub no_digit : (word : List ℕ) → list_any is_ascii_digit word ≡ false → is_mixed word ≡ false
no_digit word none = not_mixed 0 word refl none
