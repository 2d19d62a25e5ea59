-- How a text is cut at its first gap.
use Rattle.std.specs.Prelude.{◌≡◌, ℕ, Bool, true, not, List, [], ◌∷◌, ◌++◌, chars, ⊤}
use Rattle.paragraphs.specs.Words.{is_gap, words_after}

-- A character is part of a word.
abbrev pub is_word_part : ℕ → Bool
is_word_part c = not (is_gap c)

-- The first of the characters passes a test, if there is one.
abbrev pub begins_with : (ℕ → Bool) → List ℕ → Type 0
begins_with test [] = ⊤
begins_with test (c ∷ cs) = test c ≡ true

-- The text before the rest of a text is its first word, or empty.
pub record CutsWord (text rest : List ℕ) : Type 0 where
  pub word : List ℕ
  pub parted : text ≡ word ++ rest
  pub words : (begun : List ℕ) → words_after begun (chars text) ≡ words_after (begun ++ word) (chars rest)
