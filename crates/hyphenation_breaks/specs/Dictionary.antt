-- Dictionaries: languages, minima, patterns and exceptions.
-- Source: F. M. Liang, Word Hy-phen-a-tion by Com-put-er (1983), for patterns and exceptions.
use Rattle.std.specs.Prelude.{ℕ, max, fold, List, length, map, Option}
use Rattle.std.specs.Ordering.{nat_cmp}
use Rattle.std.specs.Cmp.Lexicographic.{slice_cmp}
use Rattle.std.specs.FinMap as finite
use Rattle.std.specs.FinMap.{FinMap}
use Rattle.hyphenation_breaks.specs.declared.entry.Entry.{Entry}

-- A finite map from texts, in the order of their bytes.
abbrev pub TextMap : Type 0 → Type 0
TextMap X = FinMap (slice_cmp nat_cmp) X

-- The contents of a dictionary. Left and right are the minima: the least numbers of characters before the first break of
-- a word and after its last one. Patterns are keys with their entries, and exceptions are words with their listed breaks.
-- An entry carries a payload C: nothing in a standard dictionary, a change or none in an extended one. A listed break is a B.
pub record Contents (C B : Type 0) : Type 0 where
  pub language : List ℕ
  pub left : ℕ
  pub right : ℕ
  pub patterns : TextMap (List (Entry C))
  pub exceptions : TextMap (List B)

-- The entries of each text that is a key; none of other texts.
abbrev pub Patterns : Type 0 → Type 0
Patterns C = List ℕ → Option (List (Entry C))

-- The patterns of a dictionary as a function of texts.
abbrev pub entries_of_keys : {C B : Type 0} → Contents C B → Patterns C
entries_of_keys contents text = finite.get contents.patterns text

-- The greatest of 0 and some numbers.
abbrev pub greatest : List ℕ → ℕ
greatest ns = fold max 0 ns

-- The number of bytes of the longest key; 0 without keys.
abbrev pub longest_key : {C B : Type 0} → Contents C B → ℕ
longest_key contents = greatest (map length (finite.keys contents.patterns))
