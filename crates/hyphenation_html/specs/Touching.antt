-- Words that go on beyond a text: over a tag within a line, or in a character reference.
use Rattle.std.specs.Prelude.{ℕ, ◌-◌, ◌||◌, Bool, true, false, List, [], ◌∷◌, length, slice_get, if◌then◌else◌}
use Rattle.std.specs.Option.{option_map_or}
use Rattle.text_words.specs.Names.{is_of_word}
use Rattle.html_pieces.specs.Names.{name_of}
use Rattle.html_pieces.specs.Bytes.{is_named}
use Rattle.html_pieces.specs.Pieces.{Piece}
use Rattle.html_pieces.specs.declared.groups.TheConstants.{FORMATTING_NAMES}
use Rattle.html_pieces.specs.declared.tokenizer.PieceKind.{PieceKind}
use Rattle.html_pieces.specs.declared.tokenizer.PieceKind.TheVariants.{Text, Reference, StartTag, EmptyTag, EndTag, Other}
use Rattle.hyphenation_html.specs.declared.touching.TheConstants.{INLINE_NAMES}

-- An element is within a line, so that a word may begin in it and end outside of it: a formatting element, or another one.
abbrev pub is_inline : List ℕ → Bool
is_inline name = is_named FORMATTING_NAMES name || is_named INLINE_NAMES name

-- A word goes on over a piece: over a tag of one of these elements, and over comments and the like.
unfoldable pub goes_on_over : PieceKind → List ℕ → Bool
goes_on_over StartTag tag = is_inline (name_of tag)
goes_on_over EmptyTag tag = is_inline (name_of tag)
goes_on_over EndTag tag = is_inline (name_of tag)
goes_on_over Other bytes = true
goes_on_over Text text = false
goes_on_over Reference bytes = false

-- A text begins with a byte of a word.
abbrev pub begins_in_word : List ℕ → Bool
begins_in_word [] = false
begins_in_word (b ∷ bs) = is_of_word b

-- A text ends with a byte of a word.
abbrev pub ends_in_word : List ℕ → Bool
ends_in_word text = option_map_or is_of_word (slice_get text (length text - 1)) false

-- A piece begins with a byte of a word, or is a character reference.
abbrev pub begins_touching : PieceKind → List ℕ → Bool
begins_touching Text text = begins_in_word text
begins_touching Reference bytes = true
begins_touching _ bytes = false

-- A piece ends with a byte of a word, or is a character reference.
abbrev pub ends_touching : PieceKind → List ℕ → Bool
ends_touching Text text = ends_in_word text
ends_touching Reference bytes = true
ends_touching _ bytes = false

-- The rest of a word, or a character reference, is the first of some pieces that no word goes on over.
abbrev pub touched_after : List Piece → Bool
touched_after [] = false
touched_after (p ∷ ps) = if goes_on_over p.kind p.bytes then touched_after ps else begins_touching p.kind p.bytes

-- The same of what is before a piece, after one more piece.
abbrev pub touched_before : Bool → PieceKind → List ℕ → Bool
touched_before before kind bytes = if goes_on_over kind bytes then before else ends_touching kind bytes
