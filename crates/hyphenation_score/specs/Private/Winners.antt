-- The best entry of a place, as one pass finds it.
use Rattle.std.specs.Prelude.{◌&&◌, ◌||◌, nat_lt, nat_eq, if◌then◌else◌, Bool, Option, Some, None}
use Rattle.hyphenation_breaks.specs.declared.entry.Entry.{Entry}

-- An entry beats the best entry, if any, where both bear on one place. Its value is greater, or equal and more of its
-- key comes before the place.
abbrev pub beats_best : {C : Type 0} → Option (Entry C) → Entry C → Bool
beats_best None entry = nat_lt 0 entry.value
beats_best (Some best) entry = nat_lt best.value entry.value || (nat_eq best.value entry.value && nat_lt best.place entry.place)

-- The best entry after one more.
abbrev pub better : {C : Type 0} → Option (Entry C) → Entry C → Option (Entry C)
better best entry = if beats_best best entry then Some entry else best
