-- Tests of all values of Word_Break, and kinds by their numbers.

use Rattle.std.proofs.Common.{◌≡◌, ℕ, Bool, true, [], ◌∷◌, slice_index_or, refl, sym, ap, subst, ◌∙◌}
use Rattle.ucd_breaks.specs.WordBreak.{word_break_number, word_break_from_number}
use Rattle.ucd_breaks.specs.declared.WordBreak.{WordBreak}
use Rattle.ucd_breaks.proofs.WordBreakLemmas.{word_break_from_number-word_break_number, word_break_number-lt}
use Rattle.ucd_table.proofs.TrieCheck.{all_below, all_below-at}
use Rattle.word_pieces.specs.declared.kinds.ByteKind.{ByteKind}
use Rattle.word_pieces.specs.declared.kinds.ByteKind.TheVariants.{Letter, Middle, Space, Return, Feed, Alone, Beyond}

-- The test passes at each value.
unfoldable pub every : (WordBreak → Bool) → Bool
unfolding all_below
every p = all_below (λ n. p (word_break_from_number n)) 19

pub every-at : (p : WordBreak → Bool) → every p ≡ true → (v : WordBreak) → p v ≡ true
unfolding every
every-at p ok v =
    subst (λ w. p w ≡ true) (word_break_from_number-word_break_number v)
    (all_below-at (λ n. p (word_break_from_number n)) 19 (word_break_number v) ok (word_break_number-lt v))

-- The number of a kind.
abbrev pub kind_number : ByteKind → ℕ
kind_number Letter = 0
kind_number Middle = 1
kind_number Space = 2
kind_number Return = 3
kind_number Feed = 4
kind_number Alone = 5
kind_number Beyond = 6

-- The kind with a number.
abbrev kind_from_number : ℕ → ByteKind
kind_from_number n = slice_index_or (Letter ∷ Middle ∷ Space ∷ Return ∷ Feed ∷ Alone ∷ Beyond ∷ []) n Letter

kind_from_number-kind_number : (k : ByteKind) → kind_from_number (kind_number k) ≡ k
kind_from_number-kind_number Letter = refl
kind_from_number-kind_number Middle = refl
kind_from_number-kind_number Space = refl
kind_from_number-kind_number Return = refl
kind_from_number-kind_number Feed = refl
kind_from_number-kind_number Alone = refl
kind_from_number-kind_number Beyond = refl

pub kind_number_injective : (k l : ByteKind) → kind_number k ≡ kind_number l → k ≡ l
kind_number_injective k l e = sym (kind_from_number-kind_number k) ∙ ap kind_from_number e ∙ kind_from_number-kind_number l
