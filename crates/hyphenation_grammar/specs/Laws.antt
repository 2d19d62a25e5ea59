-- Laws of texts, tokens and patterns.
use Rattle.std.specs.Prelude.{◌≡◌, ◌≢◌, ◌↔◌, ◌⊎◌, ℕ, ◌+◌, ◌==◌, ◌<◌, ◌≤◌, ◌||◌, Bool, true, false, List, [], ◌∷◌, ◌++◌, map, Some, None, IsUtf8, IsCharBoundary}
use Rattle.std.specs.List.{slice_split, AllByRecursion}
use Rattle.hyphenation_breaks.specs.Ascii.{backslash, carriage_return, close_brace, digit_zero, open_brace}
use Rattle.hyphenation_grammar.specs.Tokens.{text_spelt, elements_of, elements_from, escaped_bytes_of, byte_of_escape, pattern_escapes, is_unescaped, is_unescaped_digit, braced_value, key_of, values_from, part}
use Rattle.hyphenation_grammar.specs.declared.form.Version.{Version}
use Rattle.hyphenation_grammar.specs.declared.form.Version.TheVariants.{First, Second}
use Rattle.hyphenation_grammar.specs.declared.tokens.Escapes.{Escapes}
use Rattle.hyphenation_grammar.specs.declared.tokens.EscapedByte.{EscapedByte}
use Rattle.hyphenation_grammar.specs.declared.tokens.PatternElement.{PatternElement}
use Rattle.hyphenation_grammar.specs.declared.tokens.PatternElement.TheVariants.{Letter, Value}

-- An ASCII byte in UTF-8 is between two texts in UTF-8.
abbrev pub AsciiPartsText : Type 0
AsciiPartsText =
    (before : List ℕ) (b : ℕ) (after : List ℕ) → b < 128 → IsUtf8 (before ++ b ∷ after) → IsUtf8 before × IsUtf8 after

-- The pieces of UTF-8 between the places of an ASCII byte are UTF-8.
abbrev pub PiecesAreText : Type 0
PiecesAreText =
    (b : ℕ) (text : List ℕ) → b < 128 → IsUtf8 text → AllByRecursion IsUtf8 (slice_split (λ c. c == b) text)

-- The parts of a later token in UTF-8 are UTF-8.
abbrev pub PartsAreText : Type 0
PartsAreText = (i : ℕ) (token : List ℕ) → IsUtf8 token → IsUtf8 (part i token)

-- A text that is spelt in UTF-8 is UTF-8.
abbrev pub SpeltIsText : Type 0
SpeltIsText = (written text : List ℕ) → IsUtf8 written → text_spelt written ≡ Some text → IsUtf8 text

-- The key of a pattern in UTF-8 is UTF-8, and its values are between characters of it.
abbrev pub KeysAreText : Type 0
KeysAreText =
    (version : Version) (token : List ℕ) (elements : List PatternElement) → IsUtf8 token
    → elements_of version token ≡ Some elements
    → IsUtf8 (key_of elements)
    × AllByRecursion (λ value. IsCharBoundary (key_of elements) value.0) (values_from 0 elements)

-- ---- each way of spelling, in the format's own terms, in place of the byte-by-byte definitions in Tokens

-- Pieces of a text, one after the other, spell these things.
abbrev pub SpeltOneByOne : {X Y : Type 0} → (Y → List X → Type 0) → List Y → List X → Type 0
SpeltOneByOne spells [] written = written ≡ []
SpeltOneByOne {X} {Y} spells (y ∷ ys) written =
    (front : List X) × (rest : List X) × (written ≡ front ++ rest) × spells y front × SpeltOneByOne spells ys rest

-- A byte that is written as it is. A backslash would begin an escape, and a carriage return is refused.
pub record IsItself (spelt : EscapedByte) (written : List ℕ) : Type 0 where
  pub unescaped : spelt.escaped ≡ false
  pub alone : written ≡ spelt.byte ∷ []
  pub no_backslash : spelt.byte ≢ backslash
  pub no_return : spelt.byte ≢ carriage_return

-- A backslash, and the letter that means the byte after it.
pub record IsEscape (escapes : Escapes) (spelt : EscapedByte) (written : List ℕ) : Type 0 where
  pub escaped : spelt.escaped ≡ true
  pub letter : ℕ
  pub pair : written ≡ backslash ∷ letter ∷ []
  pub means : byte_of_escape escapes letter ≡ Some spelt.byte

-- The two ways of spelling a byte.
abbrev pub SpellsByte : Escapes → EscapedByte → List ℕ → Type 0
SpellsByte escapes spelt written = IsItself spelt written ⊎ IsEscape escapes spelt written

-- The bytes of a token are exactly those that are spelt so, one after the other.
abbrev pub BytesAreSpelt : Type 0
BytesAreSpelt =
    (escapes : Escapes) (token : List ℕ) (bytes : List EscapedByte)
    → (escaped_bytes_of escapes token ≡ Some bytes) ↔ SpeltOneByOne (SpellsByte escapes) bytes token

-- Bytes that are written as they are.
abbrev pub unescaped : List ℕ → List EscapedByte
unescaped bytes = map (λ b. record { byte = b; escaped = false }) bytes

-- A byte that writes a value, or a part of one: an unescaped digit, and in the second version an unescaped brace.
abbrev pub writes_value : Version → EscapedByte → Bool
writes_value First spelt = is_unescaped_digit spelt
writes_value Second spelt =
    is_unescaped_digit spelt || (is_unescaped open_brace spelt || is_unescaped close_brace spelt)

-- Any other byte is a letter.
pub record IsLetter (version : Version) (b : ℕ) (bytes : List EscapedByte) : Type 0 where
  pub spelt : EscapedByte
  pub alone : bytes ≡ spelt ∷ []
  pub byte : spelt.byte ≡ b
  pub no_value : writes_value version spelt ≡ false

-- A value up to 9 is one digit.
pub record IsDigit (value : ℕ) (bytes : List EscapedByte) : Type 0 where
  pub one_digit : value ≤ 9
  pub alone : bytes ≡ unescaped ((digit_zero + value) ∷ [])

-- In the second version a value from 10 to 255 is a number in braces.
pub record IsBraced (version : Version) (value : ℕ) (bytes : List EscapedByte) : Type 0 where
  pub second : version ≡ Second
  pub digits : List ℕ
  pub number : braced_value digits ≡ Some value
  pub braces : bytes ≡ unescaped (open_brace ∷ (digits ++ close_brace ∷ []))

-- The ways of spelling an element.
abbrev pub SpellsElement : Version → PatternElement → List EscapedByte → Type 0
SpellsElement version (Letter b) bytes = IsLetter version b bytes
SpellsElement version (Value value) bytes = IsDigit value bytes ⊎ IsBraced version value bytes

-- The elements of bytes are exactly those that are spelt so, one after the other.
abbrev pub ElementsAreSpelt : Type 0
ElementsAreSpelt =
    (version : Version) (bytes : List EscapedByte) (elements : List PatternElement)
    → (elements_from version None bytes ≡ Some elements) ↔ SpeltOneByOne (SpellsElement version) elements bytes

-- Elements spelt in bytes, and these in a token.
pub record IsSpeltPattern (version : Version) (elements : List PatternElement) (token : List ℕ) : Type 0 where
  pub bytes : List EscapedByte
  pub token_spells : SpeltOneByOne (SpellsByte (pattern_escapes version)) bytes token
  pub bytes_spell : SpeltOneByOne (SpellsElement version) elements bytes

-- Each spelling of a pattern's elements is read as these elements, and nothing else is read.
abbrev pub PatternsAreSpelt : Type 0
PatternsAreSpelt =
    (version : Version) (token : List ℕ) (elements : List PatternElement)
    → (elements_of version token ≡ Some elements) ↔ IsSpeltPattern version elements token
