-- Texts and pages without their soft hyphens.
use Rattle.std.specs.Prelude.{ℕ, ◌==◌, ◌||◌, Bool, not, if◌then◌else◌, List, [], ◌∷◌, codes, chars, filter, map}
use Rattle.std.specs.List.{concat}
use Rattle.std.specs.Str.{bytes_eq, encode_utf8_all}
use Rattle.html_pieces.specs.Forms.{form_of}
use Rattle.html_pieces.specs.Pieces.{Piece, pieces_of}
use Rattle.html_pieces.specs.References.{read_value}
use Rattle.html_pieces.specs.declared.tokenizer.PieceKind.{PieceKind}
use Rattle.html_pieces.specs.declared.tokenizer.PieceKind.TheVariants.{Text, Reference}

-- U+00AD in UTF-8.
abbrev pub soft_hyphen : List ℕ
soft_hyphen = 0xC2 ∷ 0xAD ∷ []

-- The character is a soft hyphen.
abbrev pub is_soft_hyphen : ℕ → Bool
is_soft_hyphen c = c == 0xAD

-- A text without its soft hyphens.
abbrev pub removed : List ℕ → List ℕ
removed text = encode_utf8_all (filter (λ c. not (is_soft_hyphen c)) (chars text))

-- A character reference is a soft hyphen: by its name, or its number is that of U+00AD.
abbrev pub is_soft_hyphen_reference : List ℕ → Bool
is_soft_hyphen_reference reference = bytes_eq reference (codes "&shy;") || bytes_eq reference (codes "&shy")
    || bytes_eq (read_value reference) soft_hyphen

-- The bytes of a piece of a page, by its kind, without soft hyphens.
abbrev pub removed_as : PieceKind → List ℕ → List ℕ
removed_as Text bytes = removed bytes
removed_as Reference bytes = if is_soft_hyphen_reference bytes then [] else bytes
removed_as _ bytes = bytes

-- A piece of a page without soft hyphens.
abbrev pub removed_piece : Piece → List ℕ
removed_piece piece = removed_as piece.kind piece.bytes

-- A page without the soft hyphens of its text.
abbrev pub removed_page : List ℕ → List ℕ
removed_page page = concat (map removed_piece (pieces_of (form_of page) page))
