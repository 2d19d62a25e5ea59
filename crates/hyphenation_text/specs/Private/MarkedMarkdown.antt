-- A text in Markdown with marks, piece by piece, as it is written.
use Rattle.std.specs.Prelude.{ℕ, Bool, false, List, [], ◌∷◌, ◌++◌, map, if◌then◌else◌}
use Rattle.any_dictionary.specs.declared.AnyDictionary.{AnyDictionary}
use Rattle.markdown_pieces.specs.Pieces.{Piece, as_piece}
use Rattle.markdown_pieces.specs.declared.cutting.Piece as cut
use Rattle.markdown_pieces.specs.declared.cutting.PieceKind.{PieceKind}
use Rattle.hyphenation_text.specs.Dictionaries.{Breaks}
use Rattle.hyphenation_text.specs.Markdown.{is_touched_by, last_touches, stays}
use Rattle.hyphenation_text.specs.Texts.{marked_text}
use Rattle.hyphenation_text.specs.Words.{breaks_under}
use Rattle.hyphenation_text.specs.declared.settings.Settings.{Settings}

-- A piece with its marks, before some others.
abbrev pub marked_markdown_piece : Breaks → List ℕ → Bool → PieceKind → List ℕ → List Piece → List ℕ
marked_markdown_piece breaks mark before kind bytes ps =
    if stays kind ps then bytes else marked_text breaks mark before (is_touched_by ps) bytes

-- Pieces with their marks.
unfoldable pub marked_markdown : Breaks → List ℕ → Bool → List Piece → List ℕ
marked_markdown breaks mark before [] = []
marked_markdown breaks mark before (p ∷ ps) =
    marked_markdown_piece breaks mark before p.kind p.bytes ps
    ++ marked_markdown breaks mark (last_touches p.kind p.bytes) ps

-- The same of a piece as the code holds it, by the settings and the dictionary of a call.
abbrev pub marked_markdown_piece_by : Settings → AnyDictionary → Bool → cut.Piece → List cut.Piece → List ℕ
marked_markdown_piece_by settings dictionary before piece pieces =
    marked_markdown_piece (breaks_under settings dictionary) settings.mark.now before piece.kind piece.text.now (map as_piece pieces)

-- A text in Markdown with its marks.
abbrev pub marked_markdown_by : Settings → AnyDictionary → List Piece → List ℕ
marked_markdown_by settings dictionary pieces = marked_markdown (breaks_under settings dictionary) settings.mark.now false pieces
