-- The words of a TeX file, and of a plain one, that are patterns and exceptions.
-- A file is read byte by byte into pieces, and its pieces one by one into the words of its groups, as TeX reads it. The
-- laws of src/laws.rt say the result in the format's own words.
-- Source: D. E. Knuth, The TeXbook, appendix H; the files of hyph-utf8.
use Rattle.std.specs.Prelude.{ℕ, ◌+◌, ◌==◌, ◌||◌, Bool, true, false, if◌then◌else◌, List, [], ◌∷◌, ◌++◌, fold, length, codes, Option, Some, None}
use Rattle.hyphenation_breaks.specs.Ascii.{tab, line_feed, form_feed, carriage_return, space, percent, backslash}
use Rattle.hyphenation_grammar.specs.Lines.{is_same}
use Rattle.hyphenation_grammar.specs.Tokens.{is_brace}
use Rattle.pattern_results.specs.declared.errors.FileCause.{FileCause}
use Rattle.pattern_results.specs.declared.errors.FileCause.TheVariants.{Input, Unclosed}
use Rattle.tex_files.specs.declared.group.Group.{Group}
use Rattle.tex_files.specs.declared.group.Group.TheVariants.{Patterns, Exceptions}
use Rattle.tex_files.specs.declared.group.Place.{Place}
use Rattle.tex_files.specs.declared.group.Place.TheVariants.{Outside, Before, Within}

-- ---- The pieces of a file.

-- White space within a line.
abbrev pub is_space : ℕ → Bool
is_space b = b == space || b == tab || b == form_feed || b == carriage_return

-- A piece of a file, and the number of its line, counted from 1.
pub record FilePiece : Type 0 where
  pub line : ℕ
  pub text : List ℕ

-- The state of a reader: the line, whether its comment has begun, the pieces that ended, and the piece that goes on.
pub record Lexed : Type 0 where
  pub line : ℕ
  pub in_comment : Bool
  pub pieces : List FilePiece
  pub last : List ℕ

-- A reader at the start of a file.
abbrev pub nothing_lexed : Lexed
nothing_lexed = record { line = 1; in_comment = false; pieces = []; last = [] }

-- The piece that goes on ends, and the next one begins with these bytes.
abbrev pub with_piece_ended : Lexed → List ℕ → Lexed
with_piece_ended r next = record r { pieces = r.pieces ++ (record { line = r.line; text = r.last }) ∷ []; last = next }

-- White space ends a piece, a brace is a piece, and a backslash begins one. Pieces may be empty.
abbrev pub with_read_byte : Lexed → ℕ → Lexed
with_read_byte r b =
    if is_space b then with_piece_ended r []
    else (if is_brace b then with_piece_ended (with_piece_ended r (b ∷ [])) []
    else (if b == backslash then with_piece_ended r (b ∷ []) else record r { last = r.last ++ b ∷ [] }))

-- A line feed ends a line and its comment. A percent sign begins a comment.
abbrev pub with_byte : Lexed → ℕ → Lexed
with_byte r b =
    if b == line_feed then record (with_piece_ended r []) { line = r.line + 1; in_comment = false }
    else (if r.in_comment || b == percent then record r { in_comment = true } else with_read_byte r b)

-- The pieces of a file.
abbrev pub pieces_of : List ℕ → List FilePiece
pieces_of bytes = (with_piece_ended (fold with_byte nothing_lexed bytes) []).pieces

-- ---- Groups.

-- A word of a group, and the number of its line.
pub record GroupWord : Type 0 where
  pub line : ℕ
  pub group : Group
  pub text : List ℕ

-- The state of a scan: the words of groups, and the place of the next piece. It keeps whether the file has ended, and
-- the first fault of a group.
pub record GroupScan : Type 0 where
  pub words : List GroupWord
  pub place : Place
  pub at_end : Bool
  pub fault : Option (ℕ × FileCause)

-- A scan at the start of a file: the first piece is outside of groups.
abbrev pub nothing_scanned : GroupScan
nothing_scanned = record { words = []; place = Outside; at_end = false; fault = None }

-- The place of the next piece, after one outside of groups.
abbrev pub place_after : List ℕ → Place
place_after piece =
    if is_same piece (codes "\\patterns") then Before Patterns
    else (if is_same piece (codes "\\hyphenation") then Before Exceptions else Outside)

-- A piece outside of groups. `\input` and `\endinput` end the file.
abbrev pub with_piece_outside : GroupScan → FilePiece → GroupScan
with_piece_outside found piece =
    if is_same piece.text (codes "\\input") then record found { at_end = true; fault = Some (piece.line, Input) }
    else (if is_same piece.text (codes "\\endinput") then record found { at_end = true }
    else record found { place = place_after piece.text })

-- A piece at that place. A group is the text in braces after its command; without a brace, the next piece is outside of groups.
abbrev pub with_piece_at : Place → GroupScan → FilePiece → GroupScan
with_piece_at Outside found piece = with_piece_outside found piece
with_piece_at (Before group) found piece =
    if is_same piece.text (codes "{") then record found { place = Within group piece.line }
    else with_piece_outside found piece
with_piece_at (Within group opened) found piece =
    if is_same piece.text (codes "}") then record found { place = Outside }
    else record found { words = found.words ++ (record { line = piece.line; group = group; text = piece.text }) ∷ [] }

-- One piece more. An empty piece is none.
abbrev pub with_piece : GroupScan → FilePiece → GroupScan
with_piece found piece = if found.at_end || length piece.text == 0 then found else with_piece_at found.place found piece

-- A group that is open at the file's end is a fault on the line on which it was opened.
abbrev pub closed_at : Place → GroupScan → GroupScan
closed_at Outside found = found
closed_at (Before group) found = found
closed_at (Within group opened) found = record found { fault = Some (opened, Unclosed) }

-- The words of the groups in all pieces of a file, and the first fault of a group.
abbrev pub groups : List FilePiece → GroupScan
groups pieces = let found = fold with_piece nothing_scanned pieces in closed_at found.place found

-- One word more, if the piece is not empty.
abbrev pub with_plain : Group → List GroupWord → FilePiece → List GroupWord
with_plain group words piece =
    if length piece.text == 0 then words
    else words ++ (record { line = piece.line; group = group; text = piece.text }) ∷ []

-- The words of a plain file, which is the inside of one group.
abbrev pub plain_words : Group → List FilePiece → List GroupWord
plain_words group pieces = fold (with_plain group) [] pieces
