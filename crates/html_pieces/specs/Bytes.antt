-- Kinds of bytes, by the names of the Infra Standard (4.6, Code points), and names compared without regard to ASCII case.
use Rattle.std.specs.Prelude.{ℕ, ◌==◌, ◌||◌, ◌&&◌, Bool, true, false, List, map, nat_le, nat_lt, nat_eq}
use Rattle.std.specs.List.{list_any}
use Rattle.std.specs.Char.{to_ascii_lowercase}
use Rattle.std.specs.Cmp.Lexicographic.{pointwise}
use Rattle.html_pieces.specs.declared.bytes.PageForm.{PageForm}
use Rattle.html_pieces.specs.declared.bytes.PageForm.TheVariants.{Html, Xml}

-- The page is XML.
abbrev pub is_xml : PageForm → Bool
is_xml Html = false
is_xml Xml = true

-- ASCII whitespace: tab, line feed, form feed, carriage return, space.
abbrev pub is_white_space : ℕ → Bool
is_white_space b = b == 9 || b == 10 || b == 12 || b == 13 || b == 32

-- ASCII alpha.
abbrev pub is_alpha : ℕ → Bool
is_alpha b = nat_le 65 b && nat_le b 90 || nat_le 97 b && nat_le b 122

-- ASCII alphanumeric.
abbrev pub is_alphanumeric : ℕ → Bool
is_alphanumeric b = is_alpha b || nat_le 48 b && nat_le b 57

-- A byte of UTF-8 that is not the first of its character.
abbrev pub is_continuation : ℕ → Bool
is_continuation b = nat_le 128 b && nat_lt b 192

-- The name of a tag ends at whitespace, '/' or '>'.
abbrev pub ends_name : ℕ → Bool
ends_name b = is_white_space b || b == 47 || b == 62

-- ASCII case-insensitive match.
unfoldable pub is_same_name : List ℕ → List ℕ → Bool
is_same_name a b = pointwise nat_eq (map to_ascii_lowercase a) (map to_ascii_lowercase b)

-- The name is one of some, in HTML.
abbrev pub is_one_of : List (List ℕ) → List ℕ → Bool
is_one_of names name = list_any (λ other. is_same_name name other) names

-- The names of a table of the code.
abbrev pub names_in : List (record { now : List ℕ }) → List (List ℕ)
names_in table = map (λ name. name.now) table

-- The name is one of such a table.
abbrev pub is_named : List (record { now : List ℕ }) → List ℕ → Bool
is_named table name = is_one_of (names_in table) name

-- The name of a tag begins with a letter. In XML (1.0, 2.3, NameStartChar) it may also begin with ':', '_', or a character
-- past U+00BF.
abbrev pub is_name_start : PageForm → ℕ → Bool
is_name_start Html b = is_alpha b
is_name_start Xml b = is_alpha b || b == 58 || b == 95 || nat_le 195 b

-- Two names are one in a form: HTML takes ASCII capitals and small letters for alike, XML does not.
unfoldable pub is_same_in : PageForm → List ℕ → List ℕ → Bool
is_same_in Html a b = is_same_name a b
is_same_in Xml a b = pointwise nat_eq a b
