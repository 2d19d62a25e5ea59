-- Kinds of bytes, by the word bounds around them.

use Rattle.std.specs.Prelude.{◌≡◌, ℕ, ◌+◌, ◌<◌, ◌≤◌, Bool, true, false, Option, Some, None, nat_lt, if◌then◌else◌, ◌&&◌, List, length, slice_index}
use Rattle.ucd_breaks.specs.WordBreak.{word_break}
use Rattle.ucd_breaks.specs.declared.WordBreak.{WordBreak}
use Rattle.ucd_breaks.specs.declared.WordBreak.TheVariants.{Cr, DoubleQuote, ExtendNumLet, ALetter, Lf, MidNumLet, MidLetter, MidNum, Newline, Numeric, SingleQuote, WSegSpace, Other}
use Rattle.word_pieces.specs.declared.kinds.ByteKind.{ByteKind}
use Rattle.word_pieces.specs.declared.kinds.ByteKind.TheVariants.{Letter, Middle, Space, Return, Feed, Alone, Beyond}

-- The kind of a value of Word_Break. Values that no character of ASCII has are beyond what is decided here.
abbrev pub kind_of_value : WordBreak → ByteKind
kind_of_value ALetter = Letter
kind_of_value Numeric = Letter
kind_of_value ExtendNumLet = Letter
kind_of_value MidLetter = Middle
kind_of_value MidNumLet = Middle
kind_of_value MidNum = Middle
kind_of_value SingleQuote = Middle
kind_of_value WSegSpace = Space
kind_of_value Cr = Return
kind_of_value Lf = Feed
kind_of_value Newline = Alone
kind_of_value Other = Alone
kind_of_value DoubleQuote = Alone
kind_of_value _ = Beyond

-- The kind of a byte: that of the character that it is, or beyond ASCII.
abbrev pub kind_of_byte : ℕ → ByteKind
kind_of_byte b = if nat_lt b 128 then kind_of_value (word_break b) else Beyond

-- The kind is that of characters of ASCII.
abbrev pub is_near : ByteKind → Bool
is_near Beyond = false
is_near _ = true

-- Whether there is a bound between characters of two kinds, where only these decide it.
abbrev pub verdict : ByteKind → ByteKind → Option Bool
verdict Beyond _ = None
verdict _ Beyond = None
verdict Letter Letter = Some false
verdict Space Space = Some false
verdict Return Feed = Some false
verdict Letter Middle = None
verdict Middle Letter = None
verdict _ _ = Some true

-- A character of the kind may be a letter or a number.
abbrev pub may_be_letter : ByteKind → Bool
may_be_letter Letter = true
may_be_letter Beyond = true
may_be_letter _ = false

-- A letter or a number may begin at the offset of a text.
abbrev pub letter_may_begin : List ℕ → ℕ → Bool
letter_may_begin text at = nat_lt at (length text) && may_be_letter (kind_of_byte (slice_index text at))

-- A letter or a number and a character of the kind may join, where a letter or a number may follow that or not.
abbrev pub may_join_letter : ByteKind → Bool → Bool
may_join_letter Letter _ = true
may_join_letter Beyond _ = true
may_join_letter Middle letter_follows = letter_follows
may_join_letter _ _ = false

-- A piece that ends with a letter or a number at the offset of a text may go on there.
abbrev pub word_may_go_on : List ℕ → ℕ → Bool
word_may_go_on text at =
    nat_lt at (length text) && may_join_letter (kind_of_byte (slice_index text at)) (letter_may_begin text (at + 1))

-- Letters, digits and underscores are all that is between two offsets of a text.
abbrev pub IsRun : List ℕ → ℕ → ℕ → Type 0
IsRun text from to =
    (from ≤ to) × (to ≤ length text) × ((k : ℕ) → from ≤ k → k < to → kind_of_byte (slice_index text k) ≡ Letter)
