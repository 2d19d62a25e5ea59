-- The slots of words, and their tags.
use Rattle.std.specs.Prelude.{◌≡◌, ℕ, ◌+◌, ◌-◌, ◌*◌, ◌/◌, ◌%◌, ◌^◌, ◌==◌, ◌||◌, ◌<◌, nat_lt, Bool, true, if◌then◌else◌, List, length, take, drop, slice_index, Some}
use Rattle.std.specs.Int.{w32, from_le_bytes}
use Rattle.std.specs.FinMap as finite
use Rattle.hyphenation_breaks.specs.Dictionary.{TextMap}

-- The number of slots.
abbrev pub slot_count : ℕ
slot_count = 16384

-- The hash of a word, by its first four bytes and its last four. A shorter word has the hash 0.
unfoldable pub hash_of : List ℕ → ℕ
hash_of word =
    if nat_lt (length word) 4
    then 0
    else ((from_le_bytes w32 (take 4 word) * 0x9E3779B1) % 2 ^ 32
    + (from_le_bytes w32 (drop (length word - 4) word) * 0x85EBCA77) % 2 ^ 32) % 2 ^ 32

-- The slot of a word by its hash.
abbrev pub slot_of : ℕ → ℕ
slot_of hash = hash / 0x40000

-- The tag of a word by its hash.
abbrev pub tag_of : ℕ → ℕ
tag_of hash = hash / 0x800 % 128 + 1

-- The tag of a slot stands for words with a tag of their own: it is this tag, or that of a slot with several.
abbrev pub stands_for : ℕ → ℕ → Bool
stands_for tag own = tag == 255 || tag == own

-- The new tags stand for all words for which the old ones do.
abbrev pub StandForNoLess : List ℕ → List ℕ → Type 0
StandForNoLess old new =
    (i other : ℕ) → 0 < other → stands_for (slice_index old i) other ≡ true → stands_for (slice_index new i) other ≡ true

-- There is a tag for each slot, and it stands for each listed word of the slot.
pub record AreTagged {X : Type 0} (tags : List ℕ) (words : TextMap X) : Type 0 where
  pub tags_len : length tags ≡ slot_count
  pub tag_stands : (word : List ℕ) (listed : X) → finite.get words word ≡ Some listed
      → stands_for (slice_index tags (slot_of (hash_of word))) (tag_of (hash_of word)) ≡ true
