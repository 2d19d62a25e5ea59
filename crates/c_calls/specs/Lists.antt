-- Lists of words as C hands them over, and the places of their breaks, which come back likewise. Both are one list of all
-- words, with the end of each word in it.
use Rattle.std.specs.Prelude.{◌≡◌, ◌+◌, ◌<◌, ◌≤◌, zero, suc, ℕ, List, ◌∷◌, length, map, take, slice_index, Option, Some}
use Rattle.std.specs.List.{flat_map, range_with_len, slice_range}
use Rattle.std.specs.Str.{IsUtf8}
use Rattle.any_dictionary.specs.Dictionaries.{all_places_by}
use Rattle.any_dictionary.specs.declared.AnyDictionary.{AnyDictionary}
use Rattle.c_calls.specs.Contents.{Held, Dictionary}
use Rattle.c_calls.specs.Statuses.{Buffer, AreUnchanged, FillsBoth}
use Rattle.c_calls.specs.declared.lists.NoList.{NoList}
use Rattle.c_calls.specs.declared.lists.WordList.{WordList}
use Rattle.c_calls.specs.declared.lists.NoList.TheVariants.{Memory, NotUtf8, BadEnds}

-- The begin of the word of a number, from 0 on: the end of the word before it, or the begin of the text.
abbrev pub begin_of : List ℕ → ℕ → ℕ
begin_of ends number = slice_index (0 ∷ ends) number

-- The word of a number: the text from its begin to its end.
abbrev pub word_at : List ℕ → List ℕ → ℕ → List ℕ
word_at text ends number = slice_range text (begin_of ends number) (slice_index ends number)

-- The words of a text, by their ends.
abbrev pub words_of : List ℕ → List ℕ → List (List ℕ)
words_of text ends = map (word_at text ends) (range_with_len 0 (length ends))

-- No word ends before it begins, and none ends after the text.
abbrev pub AreEnds : List ℕ → List ℕ → Type 0
AreEnds text ends =
    (number : ℕ) → number < length ends
    → (begin_of ends number ≤ slice_index ends number) × (slice_index ends number ≤ length text)

-- Each word is UTF-8.
abbrev pub AreUtf8 : List ℕ → List ℕ → Type 0
AreUtf8 text ends = (number : ℕ) → number < length ends → IsUtf8 (word_at text ends number)

-- The places of the breaks of each word, one word after the other.
abbrev pub places_of_all : (List ℕ → List ℕ) → List (List ℕ) → List ℕ
places_of_all places_of words = flat_map places_of words

-- For each word how many places belong to it and to the words before it.
abbrev pub ends_of_places : (List ℕ → List ℕ) → List (List ℕ) → List ℕ
ends_of_places places_of words =
    map (λ number. length (places_of_all places_of (take (number + 1) words))) (range_with_len 0 (length words))

-- Why a text and ends are no list of words.
abbrev pub IsNoList : NoList → List ℕ → List ℕ → Type 0
IsNoList Memory text ends = Unit {0}
IsNoList NotUtf8 text ends = ¬ AreUtf8 text ends
IsNoList BadEnds text ends = ¬ AreEnds text ends

-- 0 and 1: the ends are good, and each word is UTF-8. The two buffers are filled with the places and their ends, or one is too
-- short. 2: out of memory. 4: a word is not UTF-8. 8: a word ends before it begins, or after the text. No other status comes,
-- and from 2 on both buffers and their counts are unchanged.
abbrev pub Lists : AnyDictionary → List ℕ → List ℕ → Buffer ℕ → Buffer ℕ → ℕ → Type 0
Lists dictionary text ends b c zero =
    AreEnds text ends × AreUtf8 text ends
    × FillsBoth (places_of_all (all_places_by dictionary) (words_of text ends))
    (ends_of_places (all_places_by dictionary) (words_of text ends)) b c 0
Lists dictionary text ends b c (suc zero) =
    AreEnds text ends × AreUtf8 text ends
    × FillsBoth (places_of_all (all_places_by dictionary) (words_of text ends))
    (ends_of_places (all_places_by dictionary) (words_of text ends)) b c 1
Lists dictionary text ends b c (suc (suc zero)) = AreUnchanged b c
Lists dictionary text ends b c (suc (suc (suc (suc zero)))) = ¬ AreUtf8 text ends × AreUnchanged b c
Lists dictionary text ends b c (suc (suc (suc (suc (suc (suc (suc (suc zero)))))))) =
    ¬ AreEnds text ends × AreUnchanged b c
Lists dictionary text ends b c _ = ⊥

-- The same for a list of words.
abbrev pub ListsWords : AnyDictionary → WordList → Buffer ℕ → Buffer ℕ → ℕ → Type 0
ListsWords dictionary words b c status = Lists dictionary words.text.now words.ends.now b c status

-- The call for a list of words. 3: the handle holds no dictionary, and all is unchanged.
abbrev pub WritesLists : Option Held → List ℕ → List ℕ → Buffer ℕ → Buffer ℕ → ℕ → Type 0
WritesLists (Some (Dictionary dictionary)) text ends b c status = Lists dictionary text ends b c status
WritesLists _ text ends b c status = (status ≡ 3) × AreUnchanged b c
