-- The bytes of the ASCII characters that definitions name.
use Rattle.std.specs.Prelude.{ℕ}

-- The byte of a tab.
abbrev pub tab : ℕ
tab = 9

-- The byte of a line feed.
abbrev pub line_feed : ℕ
line_feed = 10

-- The byte of a form feed.
abbrev pub form_feed : ℕ
form_feed = 12

-- The byte of a carriage return.
abbrev pub carriage_return : ℕ
carriage_return = 13

-- The byte of a space.
abbrev pub space : ℕ
space = 32

-- The byte of `#`.
abbrev pub hash : ℕ
hash = 35

-- The byte of `%`.
abbrev pub percent : ℕ
percent = 37

-- The byte of an apostrophe.
abbrev pub apostrophe : ℕ
apostrophe = 39

-- The byte of `+`.
abbrev pub plus : ℕ
plus = 43

-- The byte of a comma.
abbrev pub comma : ℕ
comma = 44

-- The byte of a hyphen.
abbrev pub hyphen : ℕ
hyphen = 45

-- The byte of a dot.
abbrev pub dot : ℕ
dot = 46

-- The byte of a slash.
abbrev pub slash : ℕ
slash = 47

-- The byte of the digit 0.
abbrev pub digit_zero : ℕ
digit_zero = 48

-- The byte of the digit 9.
abbrev pub digit_nine : ℕ
digit_nine = 57

-- The byte of `=`.
abbrev pub equals_sign : ℕ
equals_sign = 61

-- The byte of a backslash.
abbrev pub backslash : ℕ
backslash = 92

-- The byte of a caret.
abbrev pub caret : ℕ
caret = 94

-- The byte of the letter a.
abbrev pub letter_a : ℕ
letter_a = 97

-- The byte of the letter n.
abbrev pub letter_n : ℕ
letter_n = 110

-- The byte of the letter r.
abbrev pub letter_r : ℕ
letter_r = 114

-- The byte of the letter s.
abbrev pub letter_s : ℕ
letter_s = 115

-- The byte of the letter z.
abbrev pub letter_z : ℕ
letter_z = 122

-- The byte of an opening brace.
abbrev pub open_brace : ℕ
open_brace = 123

-- The byte of a closing brace.
abbrev pub close_brace : ℕ
close_brace = 125
