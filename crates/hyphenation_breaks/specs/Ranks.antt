-- Ranks: numbers by which the entries that bear on a place are compared. So one byte tells both the greatest value and whether
-- an entry with it carries a change.
use Rattle.std.specs.Prelude.{ℕ, ◌+◌, ◌*◌, if◌then◌else◌, List, map, nat_le, None, Option, Some, is_some}
use Rattle.hyphenation_breaks.specs.Break.{Change}
use Rattle.hyphenation_breaks.specs.Dictionary.{greatest}
use Rattle.hyphenation_breaks.specs.declared.entry.Entry.{Entry}

-- The rank of a value in a standard dictionary: the value.
abbrev pub plain_rank : {C : Type 0} → C → ℕ → ℕ
plain_rank payload value = value

-- The rank of a value in an extended dictionary: twice the value, and one more with a change. So a greater value has the
-- greater rank, and of equal values one with a change.
abbrev pub rank_with_change : Option Change → ℕ → ℕ
rank_with_change change value = if is_some change then value * 2 + 1 else value * 2

-- The greatest of 0 and the ranks of the entries.
abbrev pub greatest_rank : {C : Type 0} → (C → ℕ → ℕ) → List (Entry C) → ℕ
greatest_rank rank entries = greatest (map (λ entry. rank entry.change entry.value) entries)

-- A rank as a byte. None if it is above 255.
abbrev pub rank_as_byte : ℕ → Option ℕ
rank_as_byte rank = if nat_le rank 255 then Some rank else None
