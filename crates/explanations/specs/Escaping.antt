-- A text as XML has it.
-- Source of the characters that XML forbids: XML 1.0 of the W3C.
use Rattle.std.specs.Prelude.{Bool, ℕ, ◌==◌, nat_lt, nat_le, ◌&&◌, ◌||◌, if◌then◌else◌, List, [], ◌∷◌, ◌++◌, codes}

-- U+FFFD, which replaces a character that XML forbids and for the other control characters below U+0020.
abbrev pub replacement : List ℕ
replacement = 239 ∷ 191 ∷ 189 ∷ []

-- A byte as XML has it, after the two bytes before it. By these, U+FFFE and U+FFFF become U+FFFD.
abbrev pub escaped_byte : ℕ → ℕ → ℕ → List ℕ
escaped_byte first second byte =
    if byte == 38 then codes "&amp;" else if byte == 60 then codes "&lt;" else if byte == 62 then codes "&gt;"
    else if byte == 34 then codes "&quot;" else if byte == 39 then codes "&#39;" else if nat_lt byte 32 then replacement
    else if (first == 239) && (second == 191) && nat_le 190 byte then 189 ∷ [] else byte ∷ []

-- A text as XML has it, after two bytes.
abbrev pub escaped_after : ℕ → ℕ → List ℕ → List ℕ
escaped_after first second [] = []
escaped_after first second (byte ∷ bytes) = escaped_byte first second byte ++ escaped_after second byte bytes

-- A text as XML has it.
abbrev pub escaped : List ℕ → List ℕ
escaped text = escaped_after 0 0 text

-- A byte that begins or ends an element or an attribute: `<`, `>`, or a quote.
abbrev pub is_markup : ℕ → Bool
is_markup byte = (byte == 60) || ((byte == 62) || ((byte == 34) || (byte == 39)))
