-- Texts in Markdown, and where marks are put into them: into texts, and into those in brackets that are of a link. A label in
-- brackets stays, since it is found by its letters.
use Rattle.std.specs.Prelude.{ℕ, ◌==◌, ◌||◌, ◌&&◌, ◌-◌, ◌++◌, Bool, true, false, not, List, [], ◌∷◌, codes, drop, length, nat_eq, nat_le, slice_get, if◌then◌else◌}
use Rattle.std.specs.List.{starts_with}
use Rattle.std.specs.Option.{option_map_or}
use Rattle.any_dictionary.specs.declared.AnyDictionary.{AnyDictionary}
use Rattle.html_pieces.specs.Bytes.{is_white_space}
use Rattle.hyphenation_segments.specs.Laws.{with_marks}
use Rattle.markdown_pieces.specs.Pieces.{Piece, pieces_of}
use Rattle.markdown_pieces.specs.declared.cutting.PieceKind.{PieceKind}
use Rattle.markdown_pieces.specs.declared.cutting.PieceKind.TheVariants.{Text, Bracketed, Other}
use Rattle.hyphenation_text.specs.Dictionaries.{Breaks}
use Rattle.hyphenation_text.specs.Places.{shifted, text_places}
use Rattle.hyphenation_text.specs.Words.{breaks_under}
use Rattle.hyphenation_text.specs.declared.settings.Settings.{Settings}

-- A word may go on in a byte of markup: in any but white space and '!', '#', '(', ')', '*', '[', ']' and '|'.
abbrev pub touches : ℕ → Bool
touches b = not (is_white_space b || b == 33 || b == 35 || nat_le 40 b && nat_le b 42 || b == 91 || b == 93 || b == 124)

-- The first byte of a piece touches a text before it, and its last byte one after it.
abbrev pub first_touches : PieceKind → List ℕ → Bool
first_touches Other bytes = option_map_or touches (slice_get bytes 0) false
first_touches _ bytes = true

abbrev pub last_touches : PieceKind → List ℕ → Bool
last_touches Other bytes = option_map_or touches (slice_get bytes (length bytes - 1)) false
last_touches _ bytes = true

-- The first of some pieces touches a text before them.
abbrev pub is_touched_by : List Piece → Bool
is_touched_by [] = false
is_touched_by (p ∷ ps) = first_touches p.kind p.bytes

-- A byte that is in no target, or not for certain: white space, quotes, brackets, '\', '`' and '<'.
abbrev pub is_in_no_target : ℕ → Bool
is_in_no_target b = is_white_space b || b == 34 || b == 39 || b == 40 || b == 60 || nat_le 91 b && nat_le b 93 || b == 96

-- A target and its end are first in some bytes.
abbrev pub is_target : List ℕ → Bool
is_target [] = false
is_target (b ∷ bs) = b == 41 || not (is_in_no_target b) && is_target bs

-- A piece is the end of a link: "](", a target without a title, and ")".
abbrev pub ends_link : PieceKind → List ℕ → Bool
ends_link Other bytes = starts_with nat_eq bytes (codes "](") && is_target (drop 2 bytes)
ends_link _ bytes = false

abbrev pub is_link : List Piece → Bool
is_link [] = false
is_link (p ∷ ps) = ends_link p.kind p.bytes

-- A piece before some others stays as it is.
abbrev pub stays : PieceKind → List Piece → Bool
stays Text ps = false
stays Bracketed ps = not (is_link ps)
stays Other ps = true

-- The breaks of pieces, where something may touch the first one from before.
abbrev pub markdown_places : Breaks → Bool → List Piece → List ℕ
markdown_places breaks before [] = []
markdown_places breaks before (p ∷ ps) =
    (if stays p.kind ps then [] else text_places breaks before (is_touched_by ps) p.bytes)
    ++ shifted (length p.bytes) (markdown_places breaks (last_touches p.kind p.bytes) ps)

-- A text in Markdown with the mark at each break of its words.
abbrev pub hyphenated_markdown_by : Breaks → List ℕ → List ℕ → List ℕ
hyphenated_markdown_by breaks mark text = with_marks mark text (markdown_places breaks false (pieces_of text))

-- The same by a dictionary and some settings.
abbrev pub hyphenated_markdown : Settings → AnyDictionary → List ℕ → List ℕ
hyphenated_markdown settings dictionary text = hyphenated_markdown_by (breaks_under settings dictionary) settings.mark.now text
