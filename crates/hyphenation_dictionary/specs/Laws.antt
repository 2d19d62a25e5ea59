-- Laws of the finite map that the keys of a trie make.
use Rattle.std.specs.Prelude.{◌≡◌, ℕ, nat_eq, if◌then◌else◌, List, Some}
use Rattle.std.specs.Cmp.Lexicographic.{pointwise}
use Rattle.std.specs.FinMap as finite
use Rattle.hyphenation_dictionary.specs.Parts.{patterns_of}
use Rattle.hyphenation_trie.specs.Trie.{Tree, IsTrie, entries_of_key}

-- The map of a trie's keys has exactly these keys, with their entries.
abbrev pub KeysAreLookedUp : Type 0 → Type 0
KeysAreLookedUp E =
    (t : Tree E) → IsTrie t → (text : List ℕ) → finite.get (patterns_of t) text ≡ entries_of_key t text

-- If two tries differ only by the entries of one key, their maps differ only by that key.
abbrev pub InsertedKeyIsAdded : Type 0 → Type 0
InsertedKeyIsAdded E =
    (old new : Tree E) (key : List ℕ) (entries : List E) → IsTrie old → IsTrie new
    → ((text : List ℕ)
    → entries_of_key new text ≡ (if pointwise nat_eq key text then Some entries else entries_of_key old text))
    → patterns_of new ≡ finite.insert (patterns_of old) key entries
