-- Words that are left as they are, and the breaks of the others.
use Rattle.std.specs.Prelude.{ℕ, ◌==◌, ◌||◌, ◌&&◌, Bool, false, List, [], ◌∷◌, length, chars, nat_lt, if◌then◌else◌}
use Rattle.any_dictionary.specs.Dictionaries.{places_by}
use Rattle.any_dictionary.specs.declared.AnyDictionary.{AnyDictionary}
use Rattle.composed_words.specs.Composed.{through_composed}
use Rattle.text_words.specs.Names.{is_name}
use Rattle.text_words.specs.Words.{unless_mixed}
use Rattle.unicode.specs.Binary.{is_uppercase}
use Rattle.hyphenation_text.specs.Dictionaries.{Breaks}
use Rattle.hyphenation_text.specs.declared.settings.Settings.{Settings}

-- ---- words

-- The first of some characters is a capital: it has the property Uppercase.
abbrev pub first_is_capital : List ℕ → Bool
first_is_capital [] = false
first_is_capital (c ∷ cs) = is_uppercase c

-- A word has too few characters, or begins with a capital where words with a capital are left alone.
unfoldable pub is_passed_over : ℕ → Bool → List ℕ → Bool
is_passed_over least skips_capitals word =
    nat_lt (length (chars word)) least || skips_capitals && first_is_capital (chars word)

-- The breaks of words, without those of words that are passed over.
abbrev pub within_limits : ℕ → Bool → Breaks → Breaks
within_limits least skips_capitals places word = if is_passed_over least skips_capitals word then [] else places word

-- The breaks of words in NFC by a dictionary and some settings. A word with a letter beside a digit has none.
abbrev pub composed_breaks_under : Settings → AnyDictionary → Breaks
composed_breaks_under settings dictionary =
    within_limits settings.min_word settings.skip_capitals (unless_mixed (places_by dictionary))

-- The breaks of words by a dictionary and some settings: each word is broken as its NFC is.
abbrev pub breaks_under : Settings → AnyDictionary → Breaks
breaks_under settings dictionary = through_composed (composed_breaks_under settings dictionary)

-- ---- tokens, which are the parts of a text between white space

-- A soft hyphen, which is U+00AD, is in a text after this byte.
abbrev pub has_soft_hyphen_after : ℕ → List ℕ → Bool
has_soft_hyphen_after before [] = false
has_soft_hyphen_after before (b ∷ bs) = before == 0xC2 && b == 0xAD || has_soft_hyphen_after b bs

-- A token is left whole: it has a soft hyphen of its own, or is a name.
unfoldable pub is_left_whole : List ℕ → Bool
is_left_whole token = has_soft_hyphen_after 0 token || is_name token
