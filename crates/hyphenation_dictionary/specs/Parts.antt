-- The parts of a dictionary, as contracts see them.
use Rattle.std.specs.Prelude.{ℕ, List, map}
use Rattle.std.specs.Borrow.{Bor}
use Rattle.std.specs.FinMap as finite
use Rattle.hyphenation_trie.specs.Keys.{pairs_of}
use Rattle.hyphenation_trie.specs.Trie.{Tree}
use Rattle.hyphenation_breaks.specs.Dictionary.{Contents, TextMap}
use Rattle.hyphenation_breaks.specs.declared.entry.Entry.{Entry}

-- The finite map of a trie's keys, each with its entries.
abbrev pub patterns_of : {E : Type 0} → Tree E → TextMap (List E)
patterns_of t = finite.from_entries (pairs_of t.texts t.entries)

-- The contents of a dictionary of these parts.
abbrev pub contents_of_parts : {C B : Type 0} → List ℕ → ℕ → ℕ → Tree (Entry C) → TextMap (List B) → Contents C B
contents_of_parts language left right patterns exceptions = record {
  language = language;
  left = left;
  right = right;
  patterns = patterns_of patterns;
  exceptions = exceptions;
}

-- Borrowed texts with borrowed lists, as texts with lists.
abbrev pub pair_views : {X : Type 0} → List (Bor (List ℕ) × Bor (List X)) → List (List ℕ × List X)
pair_views pairs = map (λ x. (x.0.now, x.1.now)) pairs
