-- A `.dic` of LibreOffice: the rules that its bytes give. Any bytes are a file. Source: libhyphen 2.8.8, hyphen.c.
use Rattle.std.specs.Prelude.{ℕ, ℤ, pos, ◌==◌, ◌||◌, Bool, if◌then◌else◌, List, [], ◌∷◌, drop, fold, codes, unwrap_or, slice_get, nat_eq, nat_abs}
use Rattle.std.specs.Cmp.Lexicographic.{pointwise}
use Rattle.std.specs.List.{list_any, before_first, after_first}
use Rattle.hyphenation_breaks.specs.Ascii.{carriage_return, line_feed}
use Rattle.libhyphen_files.specs.Bytes.{begins_with}
use Rattle.libhyphen_files.specs.Levels.{Level, empty_level, with_line}
use Rattle.libhyphen_files.specs.Lines.{lines_of}
use Rattle.libhyphen_files.specs.declared.minima.Minima.{Minima}

-- The rules of a file: its charset, whether that is UTF-8, and two levels. The first one parts compounds; the next one
-- breaks their parts.
pub record Rules : Type 0 where
  pub charset : List ℕ
  pub utf8 : Bool
  pub first_level : Level
  pub next_level : Level

-- The charset that the first line names.
abbrev pub charset_of : List ℕ → List ℕ
charset_of line = before_first (λ b. b == 0 || b == line_feed || b == carriage_return) line

abbrev pub is_utf8_name : List ℕ → Bool
is_utf8_name charset = pointwise nat_eq charset (codes "UTF-8")

-- A line parts two levels.
abbrev pub is_next_level : List ℕ → Bool
is_next_level line = begins_with line (codes "NEXTLEVEL")

-- The level of some lines.
abbrev pub level_of : Bool → List (List ℕ) → Level
level_of utf8 lines = fold (with_line utf8) empty_level lines

-- ---- A file with one level.

-- The patterns that break at hyphens and apostrophes, as lines.
abbrev pub dash_lines : Bool → List (List ℕ)
dash_lines utf8 =
    (codes "1'1") ∷ (codes "1-1")
    ∷ (if utf8 then (49 ∷ 0xE2 ∷ 0x80 ∷ 0x93 ∷ 49 ∷ []) ∷ (49 ∷ 0xE2 ∷ 0x80 ∷ 0x99 ∷ 49 ∷ []) ∷ [] else [])

-- The texts at which no break is then: the same hyphens and apostrophes.
abbrev pub dashes : Bool → List (List ℕ)
dashes utf8 =
    if utf8
    then (codes "'") ∷ (0xE2 ∷ 0x80 ∷ 0x93 ∷ []) ∷ (0xE2 ∷ 0x80 ∷ 0x99 ∷ []) ∷ (codes "-") ∷ []
    else (codes "'") ∷ (codes "-") ∷ []

-- The first of three numbers that is not 0, the third in any case.
abbrev pub first_set : ℤ → ℤ → ℤ → ℤ
first_set first second third = if nat_abs first == 0 then (if nat_abs second == 0 then third else second) else first

-- The minima of the first level, by those of the file.
abbrev pub default_minima : Minima → Minima
default_minima next_level = record {
  left = next_level.left;
  right = next_level.right;
  compound_left = first_set next_level.compound_left next_level.left (pos 3);
  compound_right = first_set next_level.compound_right next_level.right (pos 3);
}

-- The first level where the file has one level.
abbrev pub default_first_level : Bool → Level → Level
default_first_level utf8 next_level = record (level_of utf8 (dash_lines utf8)) {
  minima = default_minima next_level.minima;
  no_hyphen = dashes utf8;
}

-- ---- The whole file.

-- The two levels of the lines after the first one. The lines before NEXTLEVEL are the first level, and those after it, up to
-- another one, are the next level. Without NEXTLEVEL all lines are the next level.
abbrev pub rules_of_lines : List ℕ → Bool → List (List ℕ) → Rules
rules_of_lines charset utf8 lines =
    if list_any is_next_level lines
    then record {
      charset = charset;
      utf8 = utf8;
      first_level = level_of utf8 (before_first is_next_level lines);
      next_level = level_of utf8 (before_first is_next_level (after_first is_next_level lines));
    }
    else record {
      charset = charset;
      utf8 = utf8;
      first_level = default_first_level utf8 (level_of utf8 lines);
      next_level = level_of utf8 lines;
    }

abbrev pub rules_by : List ℕ → List (List ℕ) → Rules
rules_by charset lines = rules_of_lines charset (is_utf8_name charset) (drop 1 lines)

-- The rules of a file's bytes.
unfoldable pub rules_of : List ℕ → Rules
rules_of bytes = rules_by (charset_of (unwrap_or (slice_get (lines_of bytes) 0) [])) (lines_of bytes)
