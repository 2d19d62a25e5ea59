-- The contents of a dictionary that is made of keys and words.
use Rattle.std.specs.Prelude.{◌&&◌, ℕ, List, fold, Bool, Option}
use Rattle.std.specs.FinMap as finite
use Rattle.std.specs.String.{string_bytes}
use Rattle.std.specs.declared.string.String.{String}
use Rattle.std.specs.declared.vec.Vec.{Vec}
use Rattle.hyphenation_breaks.specs.Break.{Change}
use Rattle.hyphenation_breaks.specs.Dictionary.{Contents, TextMap}
use Rattle.hyphenation_breaks.specs.Invariant.{has_letter, are_entries}
use Rattle.hyphenation_breaks.specs.declared.entry.Entry.{Entry}

-- The map with a value for one more text, in place of the value that the text had.
abbrev pub with_pair : {X : Type 0} → TextMap X → List ℕ × X → TextMap X
with_pair texts pair = finite.insert texts pair.0 pair.1

-- The map of texts with values; the last of equal texts counts.
abbrev pub map_of_pairs : {X : Type 0} → List (List ℕ × X) → TextMap X
map_of_pairs pairs = fold with_pair finite.empty pairs

-- A string with its vector, as a text with a list.
abbrev pub pair_of : {X Y Z : Type 0} → String Y × Vec X Z → List ℕ × List X
pair_of x = (string_bytes x.0, x.1.items)

-- The contents of a dictionary of these keys with entries and words with breaks.
abbrev pub contents_of_pairs : {C B : Type 0} → List ℕ → ℕ → ℕ → List (List ℕ × List (Entry C)) → List (List ℕ × List B)
    → Contents C B
contents_of_pairs language left right patterns exceptions = record {
  language = language;
  left = left;
  right = right;
  patterns = map_of_pairs patterns;
  exceptions = map_of_pairs exceptions;
}

-- A key may have these entries. It has a letter. Their places ascend strictly on its character boundaries, and their
-- values are from 1 to 255. Their changes can be written and keep within the key.
abbrev pub fits_key : {C : Type 0} → (C → Option Change) → List ℕ → List (Entry C) → Bool
fits_key change_of key entries = has_letter key && are_entries change_of key entries
