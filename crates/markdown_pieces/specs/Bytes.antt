-- Kinds of bytes, by the names of CommonMark 0.31.
use Rattle.std.specs.Prelude.{ℕ, ◌==◌, ◌||◌, ◌&&◌, Bool, nat_le}
use Rattle.html_pieces.specs.Bytes.{is_white_space}

-- ASCII punctuation (2.1).
abbrev pub is_punctuation : ℕ → Bool
is_punctuation b =
    nat_le 33 b && nat_le b 47 || nat_le 58 b && nat_le b 64 || nat_le 91 b && nat_le b 96 || nat_le 123 b && nat_le b 126

-- A line may begin with the byte before its text: it may be of a heading, a quotation, a list, a table, or a rule (4.1 to 4.3,
-- 5.1, 5.2). 12 is a form feed, and the others are '#', ')', '*', '+', '-', '.', digits, '=', '>', '_' and '|'.
abbrev pub is_prefix : ℕ → Bool
is_prefix b =
    b == 12 || b == 35 || nat_le 41 b && nat_le b 43 || b == 45 || b == 46 || nat_le 48 b && nat_le b 57
    || b == 61 || b == 62 || b == 95 || b == 124

-- At the beginning of a line the byte is not of its text, or may not be: a prefix, white space, '`', '~' and '<'.
abbrev pub is_opening : ℕ → Bool
is_opening b = is_white_space b || is_prefix b || b == 96 || b == 126 || b == 60

-- Within a line the byte may be markup (2.4, 2.5, 6.1, 6.3 to 6.6): '\', '`', '<', '[', ']', '!' and '&'. So is a line feed.
abbrev pub is_special : ℕ → Bool
is_special b = b == 10 || b == 33 || b == 38 || b == 60 || nat_le 91 b && nat_le b 93 || b == 96
