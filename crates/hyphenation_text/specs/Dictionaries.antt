-- Breaks of words.
use Rattle.std.specs.Prelude.{ℕ, List, IsTrue, IsUtf8}
use Rattle.hyphenation_breaks.specs.Break.{ascend_on}

-- The places of each word at which it is broken, in bytes from its beginning.
abbrev pub Breaks : Type 0
Breaks = List ℕ → List ℕ

-- The places of each word ascend strictly, each on a character boundary of it.
abbrev pub AllAscend : Breaks → Type 0
AllAscend breaks = (word : List ℕ) → IsUtf8 word → IsTrue (ascend_on word 0 (breaks word))
