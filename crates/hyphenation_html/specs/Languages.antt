-- Which dictionary serves a language. Source: RFC 4647, 3.4 Lookup, of language ranges by their codes. A tag is cut at hyphens
-- from its end until it is a code.
use Rattle.std.specs.Prelude.{ℕ, ◌==◌, ◌||◌, ◌&&◌, Bool, List, map, [], ◌∷◌, length, take, slice_index, nat_le, nat_lt, Option, Some, None, if◌then◌else◌}
use Rattle.std.specs.Option.{option_map_or}
use Rattle.std.specs.String.{string_bytes}
use Rattle.html_pieces.specs.Bytes.{is_same_name}
use Rattle.hyphenation_text.specs.Dictionaries.{Breaks}
use Rattle.hyphenation_text.specs.Words.{breaks_under}
use Rattle.hyphenation_text.specs.declared.settings.Settings.{Settings}
use Rattle.any_dictionary.specs.declared.AnyDictionary.{AnyDictionary}
use Rattle.hyphenation_html.specs.declared.languages.LanguageDictionary.{LanguageDictionary}

-- A code, and the breaks of words by the dictionary that serves it.
abbrev pub Language : Type 0
Language = List ℕ × Breaks

-- A dictionary with its code.
abbrev pub coded : LanguageDictionary → List ℕ × AnyDictionary
coded language = (string_bytes language.code, language.dictionary)

-- A code with the breaks of words by its dictionary and some settings.
abbrev pub breaking : Settings → List ℕ × AnyDictionary → Language
breaking settings language = (language.0, breaks_under settings language.1)

-- The languages of a page, by the dictionaries that there are and some settings.
abbrev pub languages_by : Settings → List LanguageDictionary → List Language
languages_by settings languages = map (λ language. breaking settings (coded language)) languages

-- The code is the tag's, or a front of it before a hyphen, where ASCII capitals and small letters are alike.
unfoldable pub serves : List ℕ → List ℕ → Bool
serves code tag =
    nat_le (length code) (length tag) && is_same_name code (take (length code) tag)
    && (length code == length tag || slice_index tag (length code) == 45)

-- How many bytes a code has; 0 where there is none.
abbrev pub code_length : {D : Type 0} → Option (List ℕ × D) → ℕ
code_length best = option_map_or (λ language. length language.0) best 0

-- The better of the best so far and of one more: the one with the longer code that serves the tag.
abbrev pub better : {D : Type 0} → List ℕ → Option (List ℕ × D) → List ℕ × D → Option (List ℕ × D)
better tag best language =
    if serves language.0 tag && nat_lt (code_length best) (length language.0) then Some language else best

-- The best of one so far and of several more.
abbrev pub best_from : {D : Type 0} → List ℕ → Option (List ℕ × D) → List (List ℕ × D) → Option (List ℕ × D)
best_from tag best [] = best
best_from tag best (language ∷ languages) = best_from tag (better tag best language) languages

-- The first of those with the longest code that serves the tag.
abbrev pub best_of : {D : Type 0} → List ℕ → List (List ℕ × D) → Option (List ℕ × D)
best_of tag languages = best_from tag None languages
