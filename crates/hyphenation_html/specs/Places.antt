-- Where marks are put into a page. Places are byte offsets.
use Rattle.std.specs.Prelude.{◌≡◌, ℕ, Bool, false, List, [], ◌∷◌, ◌++◌, length, Option, Some, None, if◌then◌else◌}
use Rattle.std.specs.Option.{option_map_or}
use Rattle.html_pieces.specs.declared.bytes.PageForm.{PageForm}
use Rattle.html_pieces.specs.Forms.{form_of}
use Rattle.html_pieces.specs.Languages.{languages_of}
use Rattle.html_pieces.specs.Pieces.{Piece, pieces_of}
use Rattle.html_pieces.specs.Elements.{Element, page_element}
use Rattle.html_pieces.specs.Readings.{Reading, at_start, parent_of_text, reading_after}
use Rattle.html_pieces.specs.declared.tokenizer.PieceKind.{PieceKind}
use Rattle.html_pieces.specs.declared.tokenizer.PieceKind.TheVariants.{Text}
use Rattle.hyphenation_segments.specs.Laws.{with_marks}
use Rattle.hyphenation_text.specs.Places.{shifted, text_places}
use Rattle.hyphenation_text.specs.declared.settings.Settings.{Settings}
use Rattle.hyphenation_html.specs.Languages.{Language, languages_by, best_of}
use Rattle.hyphenation_html.specs.LeftAlone.{left_alone_elements, is_left_alone}
use Rattle.hyphenation_html.specs.Touching.{touched_after, touched_before}
use Rattle.hyphenation_html.specs.declared.languages.LanguageDictionary.{LanguageDictionary}

-- The breaks of a text in an element: by the dictionary of its language, if there is one and the text is not left alone. There
-- are none where the element is not known.
abbrev pub places_in : List Language → Option Element → Bool → Bool → List ℕ → List ℕ
places_in languages None before after text = []
places_in languages (Some element) before after text =
    if is_left_alone element text then []
    else option_map_or (λ language. text_places language.1 before after text) (best_of element.language languages) []

-- The breaks of a piece: none but of text.
abbrev pub piece_places : List Language → Option Element → Bool → Bool → PieceKind → List ℕ → List ℕ
piece_places languages parent before after Text text = places_in languages parent before after text
piece_places languages parent before after _ text = []

-- The breaks of pieces, by a reading, where something may touch the first piece from before. `class` is the class
-- whose elements are left alone.
abbrev pub pieces_places : List Language → PageForm → List ℕ → Element → Reading → Bool → List Piece → List ℕ
pieces_places languages form class page reading before [] = []
pieces_places languages form class page reading before (p ∷ ps) =
    piece_places languages (parent_of_text form page reading) before (touched_after ps) p.kind p.bytes
    ++ shifted (length p.bytes)
    (pieces_places languages form class page (reading_after form (left_alone_elements class) page reading p)
    (touched_before before p.kind p.bytes) ps)

-- The breaks of a page, in a language that holds where the page names none.
abbrev pub places_of : List Language → PageForm → List ℕ → List ℕ → List ℕ → List ℕ
places_of languages form class language page =
    pieces_places languages form class (page_element language) (at_start form (left_alone_elements class) (pieces_of form page)) false (pieces_of form page)

-- The breaks of a page that is read in a form, by dictionaries and settings.
abbrev pub places_in_form : Settings → List LanguageDictionary → PageForm → List ℕ → List ℕ → List ℕ
places_in_form settings languages form language page =
    places_of (languages_by settings languages) form settings.class.now language page

-- The breaks of a page, which is read in its own form.
abbrev pub page_places : Settings → List LanguageDictionary → List ℕ → List ℕ → List ℕ
page_places settings languages language page = places_in_form settings languages (form_of page) language page

-- A page with the mark at each of its breaks.
abbrev pub marked_page : Settings → List LanguageDictionary → List ℕ → List ℕ → List ℕ
marked_page settings languages language page =
    with_marks settings.mark.now page (page_places settings languages language page)

-- A result of a page is done: read again as a page, it names the languages that the page names, and stays as it is.
abbrev pub IsDone : Settings → List LanguageDictionary → List ℕ → List ℕ → List ℕ → Type 0
IsDone settings languages language page output =
    (languages_of output ≡ languages_of page) × (marked_page settings languages language output ≡ output)
