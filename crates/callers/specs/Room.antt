-- The breaks of a word that leave room on a line.
use Rattle.std.specs.Prelude.{ℕ, Bool, List, length, map, filter, take, drop, chars, nat_lt, Option, None}
use Rattle.std.specs.List.{last_or}
use Rattle.std.specs.Option.{option_map}
use Rattle.hyphenation_breaks.specs.Break.{Break}

-- Up to a place the word has fewer characters than there are columns, so that a hyphen has room too.
abbrev pub leaves_room : List ℕ → ℕ → ℕ → Bool
leaves_room word columns place = nat_lt (length (chars (take place word))) columns

-- The last of the places that leave room.
abbrev pub last_room : List ℕ → ℕ → List ℕ → Option ℕ
last_room word columns places = last_or None (filter (leaves_room word columns) places)

-- The places of breaks.
abbrev pub places_of : List Break → List ℕ
places_of breaks = map (λ b. b.place) breaks

-- The two parts of a word at a place.
abbrev pub word_parts : List ℕ → ℕ → List ℕ × List ℕ
word_parts word place = (take place word, drop place word)

-- The two parts of a word at the last of its breaks that leaves room, if one does.
abbrev pub fitting_parts : List ℕ → ℕ → List Break → Option (List ℕ × List ℕ)
fitting_parts word columns breaks = option_map (word_parts word) (last_room word columns (places_of breaks))
