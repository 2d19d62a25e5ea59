-- A text in a field of a line for programs. Control characters and backslashes are escaped, so a field has neither tab nor line
-- feed.
-- Source of the control characters: the Unicode Standard, general category Cc.
use Rattle.std.specs.Prelude.{ℕ, ◌==◌, ◌&&◌, nat_le, nat_lt, Bool, if◌then◌else◌, List, [], ◌∷◌, ◌++◌, codes, slice_index}
use Rattle.std.specs.Char.{is_ascii_control}
use Rattle.std.specs.Char.Escape.{escape_unicode}
use Rattle.hyphenation_breaks.specs.Ascii.{tab, line_feed, carriage_return, backslash}

-- The byte before that of the number of a control character from U+0080 to U+009F, in UTF-8.
abbrev pub control_lead : ℕ
control_lead = 194

-- Two bytes are a control character from U+0080 to U+009F, in UTF-8.
abbrev pub are_control : ℕ → ℕ → Bool
are_control first second = (first == control_lead) && (nat_le 128 second && nat_lt second 160)

-- A byte in a field, by the bytes before and after it. A backslash is escaped. The control characters `\t`, `\n` and `\r` have a
-- letter, and any other its number, as in `\u{1b}`. One of two bytes has its escape in place of the second.
unfoldable pub field_byte : ℕ → ℕ → ℕ → List ℕ
field_byte before byte after =
    if byte == backslash then codes "\\\\" else if byte == tab then codes "\\t" else if byte == line_feed then codes "\\n"
    else if byte == carriage_return then codes "\\r" else if is_ascii_control byte then escape_unicode byte
    else if are_control byte after then [] else if are_control before byte then escape_unicode byte else byte ∷ []

-- A text in a field, after a byte.
abbrev pub field_after : ℕ → List ℕ → List ℕ
field_after before [] = []
field_after before (byte ∷ bytes) = field_byte before byte (slice_index bytes 0) ++ field_after byte bytes

-- A text in a field.
abbrev pub field_text : List ℕ → List ℕ
field_text text = field_after 0 text
