-- The breaks of a word, as C reads them.
use Rattle.std.specs.Prelude.{◌++◌, ℕ, List, length, if◌then◌else◌}
use Rattle.std.specs.List.{flat_map}
use Rattle.composed_words.specs.Composed.{carried, composed, is_composed}
use Rattle.any_dictionary.specs.Dictionaries.{all_places_by, places_by}
use Rattle.any_dictionary.specs.declared.AnyDictionary.{AnyDictionary}
use Rattle.hyphenation_breaks.specs.Break.{Break, begin_of, end_of, before_of, after_of}
use Rattle.c_calls.specs.declared.changes.BreakChange.{BreakChange}

-- The places of a word's breaks, by its NFC. A word in NFC has those of its own breaks. Another word has the places that stand
-- for those breaks of its NFC that change no letters.
abbrev pub composed_places_by : AnyDictionary → List ℕ → List ℕ
composed_places_by dictionary word =
    if is_composed word then all_places_by dictionary word else carried word (places_by dictionary (composed word))

-- A break as C reads it: its place, the range that it changes, and how long the two texts in its place are.
unfoldable pub as_change : Break → BreakChange
as_change b =
    record {
      place = b.place;
      begin = begin_of b;
      end = end_of b;
      before = length (before_of b.change);
      after = length (after_of b.change);
    }

-- The two texts of each break, one after the other.
unfoldable pub texts_of : List Break → List ℕ
texts_of breaks = flat_map (λ b. before_of b.change ++ after_of b.change) breaks
