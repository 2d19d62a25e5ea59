-- The greater of two entries.
use Rattle.std.specs.Prelude.{nat_lt, if◌then◌else◌, Option}
use Rattle.hyphenation_breaks.specs.declared.entry.Entry.{Entry}
use Rattle.hyphenation_score.specs.Scoring.{value_of}

-- The second of two entries if its value is greater, else the first.
abbrev pub greater : {C : Type 0} → Option (Entry C) → Option (Entry C) → Option (Entry C)
greater first second = if nat_lt (value_of first) (value_of second) then second else first
