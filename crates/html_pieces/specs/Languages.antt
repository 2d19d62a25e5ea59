-- The languages that a page names.
-- Source: HTML Living Standard, 3.2.6.2 (lang and xml:lang).
use Rattle.std.specs.Prelude.{ℕ, ◌&&◌, Bool, not, List, [], ◌∷◌, ◌++◌, Option, Some, None, if◌then◌else◌}
use Rattle.std.specs.List.{list_any}
use Rattle.std.specs.Option.{option_map}
use Rattle.std.specs.Str.{bytes_eq, is_utf8}
use Rattle.html_pieces.specs.declared.bytes.PageForm.{PageForm}
use Rattle.html_pieces.specs.Elements.{language_by, language_value}
use Rattle.html_pieces.specs.Forms.{is_start, form_of}
use Rattle.html_pieces.specs.Pieces.{Piece, pieces_of}
use Rattle.html_pieces.specs.Tags.{attributes_of}

-- The language that the attributes of a tag name, if they name one.
abbrev pub language_in : PageForm → List ℕ → Option (List ℕ)
language_in form tag = option_map language_by (language_value form (attributes_of form tag))

-- The language that a piece names: that of a start tag.
abbrev pub language_named : PageForm → Piece → Option (List ℕ)
language_named form p = if is_start p.kind then language_in form p.bytes else None

-- A language is one of some languages.
abbrev pub is_among : List (List ℕ) → List ℕ → Bool
is_among languages language = list_any (λ one. bytes_eq one language) languages

-- Some languages with one more, if it is there not yet. A tag that is not UTF-8 names no language.
abbrev pub with_language : List (List ℕ) → List ℕ → List (List ℕ)
with_language languages language =
    if is_utf8 language && not (is_among languages language) then languages ++ language ∷ [] else languages

-- Some languages with one that is named, if one is.
abbrev pub with_named : List (List ℕ) → Option (List ℕ) → List (List ℕ)
with_named languages None = languages
with_named languages (Some language) = with_language languages language

-- Some languages with those that pieces name.
abbrev pub with_those_of : PageForm → List (List ℕ) → List Piece → List (List ℕ)
with_those_of form languages [] = languages
with_those_of form languages (p ∷ ps) = with_those_of form (with_named languages (language_named form p)) ps

-- The languages that a page names, each once, in the order in which it names them first.
abbrev pub languages_of : List ℕ → List (List ℕ)
languages_of page = with_those_of (form_of page) [] (pieces_of (form_of page) page)
