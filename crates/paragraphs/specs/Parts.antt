-- The words of a paragraph, and where they may be broken.
use Rattle.std.specs.Prelude.{◌≡◌, ℕ, ◌+◌, ◌&&◌, nat_lt, not, Bool, None, All, if◌then◌else◌, List, [], ◌∷◌, ◌++◌, length}
use Rattle.std.specs.Prelude.{map, filter, drop, slice_range}
use Rattle.std.specs.List.{flat_map}
use Rattle.unicode_segmentation.specs.Segments.{with_offsets}
use Rattle.composed_words.specs.Composed.{carried, composed, is_composed}
use Rattle.text_words.specs.Names.{is_name}
use Rattle.text_words.specs.Words.{text_words, unless_mixed}
use Rattle.hyphenation_breaks.specs.Ascii.{space, hyphen}
use Rattle.hyphenation_breaks.specs.Break.{Break, begin_of, end_of, before_of, after_of, is_changed, plain_break}
use Rattle.paragraphs.specs.Settings.{Setting, joined_text}

-- A break of a piece that is after an offset, counted from the beginning of the word.
abbrev pub set_off : ℕ → Break → Break
set_off offset b = record { place = offset + b.place; change = b.change }

-- The breaks of a piece, which is after an offset.
abbrev pub breaks_in : (List ℕ → List Break) → ℕ × List ℕ → List Break
breaks_in breaks_of piece = map (set_off piece.0) (breaks_of piece.1)

-- The places of breaks that change no letters.
abbrev pub unchanged_places : List Break → List ℕ
unchanged_places breaks = map (λ b. b.place) (filter (λ b. not (is_changed b)) breaks)

-- The breaks of a piece, by those of texts in NFC. A piece in another form has the breaks of its NFC that change no letters.
unfoldable pub composed_breaks : (List ℕ → List Break) → List ℕ → List Break
composed_breaks breaks_of piece =
    if is_composed piece then breaks_of piece
    else map plain_break (carried piece (unchanged_places (breaks_of (composed piece))))

-- The breaks of the pieces of a word, which are what a text has for words. A piece with a letter beside a digit has none.
abbrev pub piece_breaks : (List ℕ → List Break) → List ℕ → List Break
piece_breaks breaks_of word = flat_map (breaks_in (composed_breaks (unless_mixed breaks_of))) (with_offsets 0 (text_words word))

-- The breaks of a word: those of its pieces. An address, a path, an identifier or the name of a file has none.
abbrev pub word_breaks : (List ℕ → List Break) → List ℕ → List Break
word_breaks breaks_of word = if is_name word then [] else piece_breaks breaks_of word

-- The indent of the first line, that of the others, and the cost of a line's end at a break of a word.
pub record Style : Type 0 where
  pub first : List ℕ
  pub indent : List ℕ
  pub price : ℕ

-- Some of the word is before a break, after the parts that are made already, and some after it.
abbrev pub parts_it : List ℕ → ℕ → Break → Bool
parts_it word from b = nat_lt from (begin_of b) && nat_lt (end_of b) (length word)

-- The part of a word from a place up to a break, with this opening.
abbrev pub part_at : Style → List ℕ → List ℕ → ℕ → Break → Setting
part_at style word opening from b = record {
  opening = opening;
  text = slice_range word from (begin_of b);
  joint = slice_range word (begin_of b) (end_of b);
  closing = before_of b.change ++ hyphen ∷ [];
  price = style.price;
}

-- The parts of a word from a place on, where the first one has this opening. There is one up to each break, and the
-- last one, with a space between it and the next word.
abbrev pub parts_from : Style → List ℕ → List ℕ → ℕ → List Break → List Setting
parts_from style word opening from [] =
    record { opening = opening; text = drop from word; joint = space ∷ []; closing = []; price = 0 } ∷ []
parts_from style word opening from (b ∷ bs) =
    if parts_it word from b
    then part_at style word opening from b ∷ parts_from style word (style.indent ++ after_of b.change) (end_of b) bs
    else parts_from style word opening from bs

-- The parts of a word, where a line that begins with it has this indent.
abbrev pub word_parts : (List ℕ → List Break) → Style → List ℕ → List ℕ → List Setting
word_parts breaks_of style indent word = parts_from style word indent 0 (word_breaks breaks_of word)

-- The parts of words, none of which is the first one of its paragraph.
abbrev pub other_parts : (List ℕ → List Break) → Style → List (List ℕ) → List Setting
other_parts breaks_of style words = flat_map (word_parts breaks_of style style.indent) words

-- The parts of a paragraph, word by word.
abbrev pub parts_of : (List ℕ → List Break) → Style → List (List ℕ) → List Setting
parts_of breaks_of style [] = []
parts_of breaks_of style (word ∷ words) =
    word_parts breaks_of style style.first word ++ other_parts breaks_of style words

-- A break changes nothing.
abbrev pub IsPlain : Break → Type 0
IsPlain b = b.change ≡ None

-- No break of a word changes letters.
abbrev pub ArePlain : (List ℕ → List Break) → Type 0
ArePlain breaks_of = (word : List ℕ) → All IsPlain (breaks_of word)

-- A word and a space.
abbrev pub spaced : List ℕ → List ℕ
spaced word = word ++ space ∷ []

-- The parts of words join to these words, with a space after each.
abbrev pub KeepWords : (List ℕ → List Break) → Style → List (List ℕ) → Type 0
KeepWords breaks_of style words = flat_map joined_text (parts_of breaks_of style words) ≡ flat_map spaced words
