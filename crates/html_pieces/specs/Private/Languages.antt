-- Languages as the code holds them.
use Rattle.std.specs.Prelude.{◌≡◌, ℕ, List, map}
use Rattle.std.specs.BTreeSet.{BTreeSet, contains_text}
use Rattle.std.specs.String.{string_bytes}
use Rattle.std.specs.declared.string.String.{String}
use Rattle.html_pieces.specs.Elements.{held_language}
use Rattle.html_pieces.specs.Languages.{is_among}
use Rattle.html_pieces.specs.declared.elements.LanguageValue.{LanguageValue}

-- The language as it is read.
abbrev pub as_language : LanguageValue → List ℕ
as_language held = held_language held.has_references held.written.now

-- A set has exactly these languages.
abbrev pub HasThese : {Y Z : Type 0} → List (String Y) → BTreeSet (String Z) → Type 0
HasThese all set = (language : List ℕ) → contains_text set language ≡ is_among (map string_bytes all) language
