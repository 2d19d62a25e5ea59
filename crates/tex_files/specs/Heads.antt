-- The minima in the heads of TeX files: the least numbers of characters before and after a break.
-- A head is made of comments. After `hyphenmins:` there are the parts `generation:` and `typesetting:`, in either order. Each
-- has minima, such as `left: 2` and `right: 3`. Those of `typesetting:` count. Those of `generation:` are for the making of
-- patterns, and count nowhere.
-- Source: the files of hyph-utf8.
use Rattle.std.specs.Prelude.{ℕ, ◌-◌, ◌||◌, Bool, if◌then◌else◌, List, [], ◌∷◌, length, take, drop, codes}
use Rattle.std.specs.Prelude.{Option, None, is_some, option_map, option_and_then, slice_index_or}
use Rattle.std.specs.Char.{is_ascii_whitespace}
use Rattle.std.specs.List.{filter_map, prefix_len, suffix_len}
use Rattle.std.specs.Option.{option_or}
use Rattle.hyphenation_grammar.specs.Lines.{between_spaces, is_same, lines_of, number_to_255, strip_prefix}
use Rattle.tex_files.specs.declared.group.File.{File}

-- A text without white space at its start, and without any at its end.
abbrev pub trimmed_start : List ℕ → List ℕ
trimmed_start text = drop (prefix_len is_ascii_whitespace text) text

abbrev pub trimmed_end : List ℕ → List ℕ
trimmed_end text = take (length text - suffix_len is_ascii_whitespace text) text

abbrev pub trimmed : List ℕ → List ℕ
trimmed text = trimmed_end (trimmed_start text)

-- The text of a comment, without white space around it. None if a line does not begin with a percent sign.
abbrev pub comment_of : List ℕ → Option (List ℕ)
comment_of line = option_map trimmed (strip_prefix (codes "%") line)

-- The comments of a file.
abbrev pub comments_in : List ℕ → List (List ℕ)
comments_in bytes = filter_map comment_of (lines_of bytes)

-- The comments of a part: those after the first one that is its name.
abbrev pub part_of : List ℕ → List (List ℕ) → List (List ℕ)
part_of name [] = []
part_of name (comment ∷ comments) = if is_same comment name then comments else part_of name comments

-- The number from 0 to 255 after a name, in a comment. A remark may follow after a space.
abbrev pub value_of : List ℕ → List ℕ → Option ℕ
value_of name comment = option_and_then
    (λ text. number_to_255 (slice_index_or (between_spaces (trimmed text)) 0 [])) (strip_prefix name comment)

-- A comment is a minimum: the name of the left or of the right one, and its number.
abbrev pub is_minimum : List ℕ → Bool
is_minimum comment = is_some (value_of (codes "left:") comment) || is_some (value_of (codes "right:") comment)

-- The first minimum with that name among those that comments begin with. They end with the first comment that is no minimum.
abbrev pub first_minimum : List ℕ → List (List ℕ) → Option ℕ
first_minimum name [] = None
first_minimum name (comment ∷ comments) =
    if is_minimum comment then option_or (value_of name comment) (first_minimum name comments) else None

-- The minimum with that name in the head of a file: the one of `typesetting:`, after `hyphenmins:`.
abbrev pub head_minimum : List ℕ → List ℕ → Option ℕ
head_minimum name bytes =
    first_minimum name (part_of (codes "typesetting:") (part_of (codes "hyphenmins:") (comments_in bytes)))

-- The minimum with that name in the first file whose head has it.
abbrev pub minimum_in_heads : List ℕ → List File → Option ℕ
minimum_in_heads name [] = None
minimum_in_heads name (file ∷ files) = option_or (head_minimum name file.bytes.now) (minimum_in_heads name files)

-- A minimum: the given one, or else the one in the heads.
abbrev pub minimum_for : List ℕ → Option ℕ → List File → Option ℕ
minimum_for name given files = option_or given (minimum_in_heads name files)

-- Both minima. None if one of them is neither given nor in a head.
unfoldable pub minima_for : Option ℕ → Option ℕ → List File → Option (ℕ × ℕ)
minima_for left right files =
    option_and_then (λ least_left. option_map (λ least_right. (least_left, least_right))
    (minimum_for (codes "right:") right files)) (minimum_for (codes "left:") left files)
