-- The keys and words of files, in the order in which files have them, and the dictionary that they make.
use Rattle.std.specs.Prelude.{ℕ, List, [], ◌∷◌, ◌++◌}
use Rattle.hyphenation_breaks.specs.Dictionary.{Contents}
use Rattle.hyphenation_breaks.specs.declared.entry.Entry.{Entry}
use Rattle.hyphenation_dictionary.specs.Maker.{map_of_pairs}

-- Keys with their entries, and words with their breaks.
pub record SpeltWords (C B : Type 0) : Type 0 where
  pub patterns : List (List ℕ × List (Entry C))
  pub exceptions : List (List ℕ × List B)

-- Neither a key nor a word.
abbrev pub nothing_spelt : {C B : Type 0} → SpeltWords C B
nothing_spelt = record { patterns = []; exceptions = [] }

-- One key more, with its entries.
abbrev pub with_key : {C B : Type 0} → SpeltWords C B → List ℕ × List (Entry C) → SpeltWords C B
with_key before key = record { patterns = before.patterns ++ key ∷ []; exceptions = before.exceptions }

-- One word more, with its breaks.
abbrev pub with_word : {C B : Type 0} → SpeltWords C B → List ℕ × List B → SpeltWords C B
with_word before word = record { patterns = before.patterns; exceptions = before.exceptions ++ word ∷ [] }

-- The dictionary of keys and words. If a key or a word comes several times, the last one counts.
abbrev pub contents_made : {C B : Type 0} → List ℕ → ℕ → ℕ → SpeltWords C B → Contents C B
contents_made language left right all = record {
  language = language;
  left = left;
  right = right;
  patterns = map_of_pairs all.patterns;
  exceptions = map_of_pairs all.exceptions;
}
