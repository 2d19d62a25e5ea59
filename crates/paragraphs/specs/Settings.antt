-- The parts of a paragraph, its lines, and their columns.
use Rattle.std.specs.Prelude.{◌≡◌, ℕ, ◌-◌, ◌^◌, ◌≤◌, ◌⊎◌, ◌==◌, ◌&&◌, nat_lt, Bool, false, not, List, [], ◌∷◌, ◌++◌}
use Rattle.std.specs.Prelude.{length, filter, slice_range, chars}
use Rattle.std.specs.List.{slice_index_or, flat_map, list_all}
use Rattle.std.specs.Str.{encode_utf8_all}
use Rattle.unicode_width.specs.Width.{str_width}
use Rattle.line_division.specs.declared.stretch.Stretch.{Stretch}

-- A part of a paragraph, as texts. One is set before it where a line begins with it, and then comes its own text. One
-- is between it and the next part of a line, and one is set after it where a line ends with it. The price is that of
-- this end.
pub record Setting : Type 0 where
  pub opening : List ℕ
  pub text : List ℕ
  pub joint : List ℕ
  pub closing : List ℕ
  pub price : ℕ

-- The character is a soft hyphen.
abbrev pub is_soft_hyphen : ℕ → Bool
is_soft_hyphen c = c == 0xAD

-- A text as it is shown: without soft hyphens.
abbrev pub shown : List ℕ → List ℕ
shown text = encode_utf8_all (filter (λ c. not (is_soft_hyphen c)) (chars text))

-- The columns of a text in a terminal.
abbrev pub columns_of : List ℕ → ℕ
columns_of text = str_width false (chars text)

-- The columns of a part. A line that ends with it ends in a hyphen if a text is set after it.
abbrev pub stretch_of : Setting → Stretch
stretch_of part = record {
  opening = columns_of part.opening;
  width = columns_of (shown part.text);
  joint = columns_of (shown part.joint);
  closing = columns_of part.closing;
  price = part.price;
  hyphenated = nat_lt 0 (length part.closing);
}

-- A part without texts.
abbrev pub no_setting : Setting
no_setting = record { opening = []; text = []; joint = []; closing = []; price = 0 }

-- The part of an index, counted from 0.
abbrev pub setting_at : List Setting → ℕ → Setting
setting_at parts place = slice_index_or parts place no_setting

-- The text of a part that is not the last one of its line.
abbrev pub joined_text : Setting → List ℕ
joined_text part = part.text ++ part.joint

-- The same as it is shown.
abbrev pub shown_text : Setting → List ℕ
shown_text part = shown part.text ++ shown part.joint

-- The text of the last part of a line, as it is shown.
abbrev pub last_text : Setting → List ℕ
last_text part = shown part.text ++ part.closing

-- The line from a start to an end after it. It is the opening of its first part, all but the last one with their
-- joints, and the last one with its closing.
abbrev pub line_text : List Setting → ℕ → ℕ → List ℕ
line_text parts start end =
    (setting_at parts start).opening ++ flat_map shown_text (slice_range parts start (end - 1))
    ++ last_text (setting_at parts (end - 1))

-- The lines from a start to a row of ends.
abbrev pub lines_to : List Setting → ℕ → List ℕ → List (List ℕ)
lines_to parts start [] = []
lines_to parts start (end ∷ ends) = line_text parts start end ∷ lines_to parts end ends

-- The same lines as they would be if the paragraph were one line: with all joints and soft hyphens, and without
-- openings and closings.
abbrev pub unbroken_to : List Setting → ℕ → List ℕ → List (List ℕ)
unbroken_to parts start [] = []
unbroken_to parts start (end ∷ ends) = flat_map joined_text (slice_range parts start end) ∷ unbroken_to parts end ends

-- No text of a part has 2^31 bytes.
abbrev pub is_short : Setting → Bool
is_short part =
    nat_lt (length part.opening) (2 ^ 31) && nat_lt (length part.text) (2 ^ 31)
    && nat_lt (length part.joint) (2 ^ 31) && nat_lt (length part.closing) (2 ^ 31)

-- There are 2^30 parts, or one is not short.
abbrev pub IsTooLong : List Setting → Type 0
IsTooLong parts = (2 ^ 30 ≤ length parts) ⊎ (list_all is_short parts ≡ false)
