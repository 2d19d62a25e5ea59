-- From which line on a page is left alone, since parsers may read it otherwise there.
use Rattle.std.specs.Prelude.{ℕ, ◌+◌, ◌-◌, ◌^◌, ◌==◌, min, List, [], ◌∷◌, Option, Some, None, if◌then◌else◌}
use Rattle.html_pieces.specs.declared.bytes.PageForm.{PageForm}
use Rattle.html_pieces.specs.Forms.{form_of}
use Rattle.html_pieces.specs.Pieces.{Piece, pieces_of}
use Rattle.html_pieces.specs.Elements.{Element, page_element}
use Rattle.html_pieces.specs.Readings.{Reading, at_start, reading_after}
use Rattle.hyphenation_html.specs.LeftAlone.{left_alone_elements}
use Rattle.hyphenation_text.specs.declared.settings.Settings.{Settings}

-- The number of line feeds in bytes.
abbrev pub line_feeds : List ℕ → ℕ
line_feeds [] = 0
line_feeds (b ∷ bs) = if b == 10 then 1 + line_feeds bs else line_feeds bs

-- The number of a line that is so many lines after another one. No page has more lines than a number of 64 bits can count.
abbrev pub line_after : ℕ → ℕ → ℕ
line_after line feeds = min (line + feeds) (2 ^ 64 - 1)

-- The line of the first of some pieces at which a reading becomes uncertain, where the first piece is on a line of this number.
-- There is none where it stays certain.
abbrev pub unread_from : PageForm → List ℕ → Element → Reading → ℕ → List Piece → Option ℕ
unread_from form class page reading line [] = None
unread_from form class page reading line (p ∷ ps) =
    if (reading_after form (left_alone_elements class) page reading p).is_certain
    then unread_from form class page (reading_after form (left_alone_elements class) page reading p) (line_after line (line_feeds p.bytes)) ps
    else Some line

-- The line, counted from 1, of the first of the pieces of a page at which it becomes uncertain; none where it stays certain.
abbrev pub unread_in : Settings → PageForm → Element → List Piece → Option ℕ
unread_in settings form page pieces = unread_from form settings.class.now page (at_start form (left_alone_elements settings.class.now) pieces) 1 pieces

-- The line, counted from 1, from which on a page is left alone; none where it is read to its end.
abbrev pub unread_line : Settings → List ℕ → List ℕ → Option ℕ
unread_line settings language page = unread_in settings (form_of page) (page_element language) (pieces_of (form_of page) page)
