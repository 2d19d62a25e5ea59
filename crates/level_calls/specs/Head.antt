-- The head of a file: its charset and its minima, as C reads them.
use Rattle.std.specs.Prelude.{ℕ, ◌-◌, List, ◌++◌, length, take, replicate}
use Rattle.libhyphen_files.specs.Files.{Rules}
use Rattle.level_calls.specs.declared.head.LevelHead.{LevelHead}

-- The name of a charset, which has at most 19 bytes, in 20 bytes: those behind it are 0.
abbrev pub with_zeros : List ℕ → List ℕ
with_zeros charset = take 19 charset ++ replicate (20 - length (take 19 charset)) 0

-- The charset of the file, and the minima of its first level.
unfoldable pub head_of : Rules → LevelHead
head_of rules = record {
  charset = with_zeros rules.charset;
  left = rules.first_level.minima.left;
  right = rules.first_level.minima.right;
  compound_left = rules.first_level.minima.compound_left;
  compound_right = rules.first_level.minima.compound_right;
  utf8 = rules.utf8;
}
