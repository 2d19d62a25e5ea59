-- The prefix of a line: its quote signs, its indent, and the mark of an item.
use Rattle.std.specs.Prelude.{ℕ, ◌+◌, ◌==◌, ◌&&◌, ◌||◌, nat_eq, nat_lt, Bool, if◌then◌else◌, List, [], ◌∷◌, ◌++◌, map}
use Rattle.std.specs.Prelude.{take, drop, codes, chars, slice_index_or}
use Rattle.std.specs.Char.{is_ascii_digit}
use Rattle.std.specs.List.{count_by, flat_map, prefix_len, starts_with}
use Rattle.std.specs.Str.{encode_utf8_all}
use Rattle.hyphenation_breaks.specs.Ascii.{tab, space}

-- A text begins with another one.
abbrev pub begins : List ℕ → List ℕ → Bool
begins text with = starts_with nat_eq text with

-- ---- quote signs

-- A byte is a quote sign.
abbrev pub is_sign : ℕ → Bool
is_sign b = b == 62

-- A text is indented as code is: by four spaces or a tab.
abbrev pub is_deep : List ℕ → Bool
is_deep text = begins text (codes "    ") || begins text (tab ∷ [])

-- The bytes up to the last quote sign, where a byte is before this many.
abbrev pub with_sign : ℕ → ℕ → ℕ
with_sign b others = if is_sign b || b == space && nat_lt 0 others then others + 1 else 0

-- The bytes up to the last quote sign of those that a text begins with, with spaces before and between them.
abbrev pub signs_length : List ℕ → ℕ
signs_length [] = 0
signs_length (b ∷ bs) = with_sign b (signs_length bs)

-- The bytes of a line's quote. A line that is indented as code has none.
abbrev pub quote_length : List ℕ → ℕ
quote_length line = if is_deep line then 0 else signs_length line

-- The quote of a line: the quote signs that it begins with, as they are written.
abbrev pub quote_of : List ℕ → List ℕ
quote_of line = take (quote_length line) line

-- A line without its quote.
abbrev pub unquoted : List ℕ → List ℕ
unquoted line = drop (quote_length line) line

-- The number of quote signs of a quote.
abbrev pub signs_in : List ℕ → ℕ
signs_in quote = count_by is_sign quote

-- ---- the indent, and the mark of an item

-- A byte is a space or a tab.
abbrev pub is_indent : ℕ → Bool
is_indent b = b == space || b == tab

-- The bytes of the spaces and tabs that a text begins with.
abbrev pub indent_length : List ℕ → ℕ
indent_length text = prefix_len is_indent text

-- The bytes of the digits that a text begins with, and of the dot or the parenthesis after them; 0 if these are no
-- number of an item, which has at most three digits.
abbrev pub number_length : List ℕ → ℕ
number_length text =
    let digits = prefix_len is_ascii_digit text in
    let after = slice_index_or text digits 0 in
    if nat_lt 0 digits && nat_lt digits 4 && (after == 46 || after == 41) then digits + 1 else 0

-- The bytes of an item's sign: `-`, `*`, `+`, a bullet, or a number with a dot or a parenthesis; 0 if there is none.
abbrev pub sign_length : List ℕ → ℕ
sign_length text =
    if begins text (codes "-") || begins text (codes "*") || begins text (codes "+") then 1
    else if begins text (0xE2 ∷ 0x80 ∷ 0xA2 ∷ []) then 3 else number_length text

-- The bytes of an item's sign, and of the spaces and tabs after it; 0 if there are not both.
abbrev pub mark_length : List ℕ → ℕ
mark_length text =
    let sign = sign_length text in
    let mark = sign + indent_length (drop sign text) in
    if nat_lt 0 sign && nat_lt sign mark then mark else 0

-- The bytes of the indent and the mark of a line without its quote.
abbrev pub lead_length : List ℕ → ℕ
lead_length text = let indent = indent_length text in indent + mark_length (drop indent text)

-- The indent and the mark of a line.
abbrev pub lead_of : List ℕ → List ℕ
lead_of line = take (lead_length (unquoted line)) (unquoted line)

-- A line without its prefix.
abbrev pub rest_of : List ℕ → List ℕ
rest_of line = drop (lead_length (unquoted line)) (unquoted line)

-- A line without its quote and its indent.
abbrev pub bare : List ℕ → List ℕ
bare line = drop (indent_length (unquoted line)) (unquoted line)

-- A line begins with the mark of an item.
abbrev pub is_item : List ℕ → Bool
is_item line = nat_lt 0 (mark_length (bare line))

-- ---- how prefixes are set

-- A character of a lead: a tab is four spaces.
abbrev pub spread_char : ℕ → List ℕ
spread_char c = if c == tab then codes "    " else c ∷ []

-- The characters of a lead.
abbrev pub spread : List ℕ → List ℕ
spread lead = flat_map spread_char (chars lead)

-- A quote, and the lead after it.
pub record Prefix : Type 0 where
  pub quote : List ℕ
  pub lead : List ℕ

-- The prefix of a line.
abbrev pub prefix_of : List ℕ → Prefix
prefix_of line = record { quote = quote_of line; lead = lead_of line }

-- A prefix as it is written.
abbrev pub written_prefix : Prefix → List ℕ
written_prefix prefix = prefix.quote ++ encode_utf8_all (spread prefix.lead)

-- The same with a space in place of each character of the lead.
abbrev pub blank_prefix : Prefix → List ℕ
blank_prefix prefix = prefix.quote ++ map (λ _. space) (spread prefix.lead)
