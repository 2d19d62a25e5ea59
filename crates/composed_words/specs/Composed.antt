-- Words that are broken as their NFC is. NFC is Normalization Form C: The Unicode Standard, D120, and UAX #15.
use Rattle.std.specs.Prelude.{ℕ, ◌+◌, ◌&&◌, Bool, List, length, take, drop, filter, chars, encode_utf8_all, nat_le, if◌then◌else◌}
use Rattle.std.specs.List.{list_any, range_with_len}
use Rattle.std.specs.Str.{bytes_eq}
use Rattle.hyphenation_breaks.specs.Break.{is_boundary}
use Rattle.unicode_normalization.specs.Forms.{nfc}

-- A text in NFC.
unfoldable pub composed : List ℕ → List ℕ
composed text = encode_utf8_all (nfc (chars text))

-- A text is in NFC.
unfoldable pub is_composed : List ℕ → Bool
is_composed text = bytes_eq (composed text) text

-- The place q of a word stands for the place p of its NFC: the NFC of the word before q is its NFC before p, and the NFC of
-- the word from q on is its NFC from p on.
unfoldable pub stands_for : List ℕ → ℕ → ℕ → Bool
stands_for word q p =
    is_boundary word q && nat_le p (length (composed word)) && bytes_eq (composed (take q word)) (take p (composed word))
    && bytes_eq (composed (drop q word)) (drop p (composed word))

-- A place of a word stands for one of some places of its NFC.
unfoldable pub stands_for_any : List ℕ → List ℕ → ℕ → Bool
stands_for_any word places q = list_any (stands_for word q) places

-- The places of a word that stand for some places of its NFC. One for which none stands is left out.
unfoldable pub carried : List ℕ → List ℕ → List ℕ
carried word places = filter (stands_for_any word places) (range_with_len 0 (length word + 1))

-- The breaks of a word, by those of words in NFC.
unfoldable pub through_composed : (List ℕ → List ℕ) → List ℕ → List ℕ
through_composed breaks word = if is_composed word then breaks word else carried word (breaks (composed word))
