-- Discretionary breaks.
-- Source: D. E. Knuth, The TeXbook (1984), chapter 14, on discretionary breaks.
use Rattle.std.specs.Prelude.{ℕ, List, ◌++◌}
use Rattle.std.specs.List.{slice_range}
use Rattle.std.specs.String.{string_bytes}
use Rattle.hyphenation_breaks.specs.Break.{Break, begin_of, end_of, before_of, after_of}
use Rattle.callers.specs.declared.discretionaries.Discretionary.{Discretionary}

-- A break as it is set: the text at the line's end, that at the next line's beginning, and that without a line end.
pub record Parts : Type 0 where
  pub before : List ℕ
  pub after : List ℕ
  pub unbroken : List ℕ

-- The parts of a break: the first half of its change with the hyphen, the second half, and the letters that it changes.
abbrev pub parts_at : List ℕ → List ℕ → Break → Parts
parts_at hyphen word b =
    record {
      before = before_of b.change ++ hyphen;
      after = after_of b.change;
      unbroken = slice_range word (begin_of b)
          (end_of b);
    }

-- The parts of a discretionary in code.
abbrev pub parts_of : Discretionary → Parts
parts_of set =
    record { before = string_bytes set.before; after = string_bytes set.after; unbroken = set.unbroken.now }
