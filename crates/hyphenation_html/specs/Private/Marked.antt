-- A page with marks, piece by piece, as it is written.
use Rattle.std.specs.Prelude.{ℕ, Bool, true, false, List, [], ◌∷◌, ◌++◌, map, Option, Some, None, if◌then◌else◌}
use Rattle.std.specs.Option.{option_map, option_map_or}
use Rattle.html_pieces.specs.declared.bytes.PageForm.{PageForm}
use Rattle.html_pieces.specs.Forms.{form_of}
use Rattle.html_pieces.specs.Pieces.{Piece, as_piece, pieces_of}
use Rattle.html_pieces.specs.Elements.{Element, as_element, page_element}
use Rattle.html_pieces.specs.Readings.{Reading, at_start, parent_of_text, reading_after}
use Rattle.html_pieces.specs.declared.elements.Element as held
use Rattle.html_pieces.specs.declared.tokenizer.Piece as cut
use Rattle.html_pieces.specs.declared.tokenizer.PieceKind.{PieceKind}
use Rattle.html_pieces.specs.declared.tokenizer.PieceKind.TheVariants.{Text}
use Rattle.any_dictionary.specs.declared.AnyDictionary.{AnyDictionary}
use Rattle.hyphenation_text.specs.Texts.{marked_text}
use Rattle.hyphenation_text.specs.declared.settings.Settings.{Settings}
use Rattle.hyphenation_html.specs.Languages.{Language, best_of, coded, languages_by}
use Rattle.hyphenation_html.specs.LeftAlone.{left_alone_elements, is_left_alone}
use Rattle.hyphenation_html.specs.Touching.{touched_after, touched_before}
use Rattle.hyphenation_html.specs.declared.languages.LanguageDictionary.{LanguageDictionary}

-- A text of an element with its marks.
abbrev pub marked_in : List Language → List ℕ → Option Element → Bool → Bool → List ℕ → List ℕ
marked_in languages mark None before after text = text
marked_in languages mark (Some element) before after text =
    if is_left_alone element text then text
    else option_map_or (λ language. marked_text language.1 mark before after text) (best_of element.language languages) text

-- A piece is text.
abbrev pub is_text : PieceKind → Bool
is_text Text = true
is_text _ = false

-- A piece with its marks.
abbrev pub marked_piece : List Language → List ℕ → Option Element → Bool → Bool → PieceKind → List ℕ → List ℕ
marked_piece languages mark parent before after Text text = marked_in languages mark parent before after text
marked_piece languages mark parent before after _ text = text

-- Pieces with their marks, by a reading.
unfoldable pub marked_pieces : List Language → List ℕ → PageForm → List ℕ → Element → Reading → Bool → List Piece → List ℕ
marked_pieces languages mark form class page reading before [] = []
marked_pieces languages mark form class page reading before (p ∷ ps) =
    marked_piece languages mark (parent_of_text form page reading) before (touched_after ps) p.kind p.bytes
    ++ marked_pieces languages mark form class page (reading_after form (left_alone_elements class) page reading p)
    (touched_before before p.kind p.bytes) ps

-- ---- the same by the settings and dictionaries of a call

-- The dictionary, with its code, for a text in an element; none where the text is left alone, or the element is not known.
abbrev pub dictionary_in : List LanguageDictionary → Option Element → List ℕ → Option (List ℕ × AnyDictionary)
dictionary_in languages None text = None
dictionary_in languages (Some element) text = if is_left_alone element text then None else best_of element.language (map coded languages)

-- A text of an element with its marks.
abbrev pub marked_in_by : Settings → List LanguageDictionary → Option held.Element → Bool → Bool → List ℕ → List ℕ
marked_in_by settings languages parent before after text =
    marked_in (languages_by settings languages) settings.mark.now (option_map as_element parent) before after text

-- A piece with its marks.
abbrev pub marked_piece_by : Settings → List LanguageDictionary → Option held.Element → Bool → Bool → cut.Piece → List ℕ
marked_piece_by settings languages parent before after piece =
    marked_piece (languages_by settings languages) settings.mark.now (option_map as_element parent) before after piece.kind
    piece.text.now

-- All pieces of a page with their marks.
abbrev pub marked_pieces_by : Settings → List LanguageDictionary → PageForm → held.Element → List cut.Piece → List ℕ
marked_pieces_by settings languages form page pieces =
    marked_pieces (languages_by settings languages) settings.mark.now form settings.class.now (as_element page)
    (at_start form (left_alone_elements settings.class.now) (map as_piece pieces)) false
    (map as_piece pieces)

-- A page with its marks.
abbrev pub marked_page_by : Settings → List LanguageDictionary → List ℕ → List ℕ → List ℕ
marked_page_by settings languages language page =
    marked_pieces (languages_by settings languages) settings.mark.now (form_of page) settings.class.now
    (page_element language) (at_start (form_of page) (left_alone_elements settings.class.now) (pieces_of (form_of page) page)) false (pieces_of (form_of page) page)
