-- Breaks that ascend on all words.
use Rattle.std.specs.Prelude.{List, [], ◌∷◌, ⊤}
use Rattle.hyphenation_text.specs.Dictionaries.{AllAscend}
use Rattle.hyphenation_html.specs.Languages.{Language}

-- The places of each word ascend on it, by the dictionary of each language.
abbrev pub AllFit : List Language → Type 0
AllFit [] = ⊤
AllFit (language ∷ languages) = AllAscend language.1 × AllFit languages
