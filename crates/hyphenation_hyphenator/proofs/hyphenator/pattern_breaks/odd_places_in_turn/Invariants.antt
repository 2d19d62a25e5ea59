use Rattle.std.proofs.Common.{◌≡◌, ◌-◌, ◌&&◌, filter, map, slice_index}
use Rattle.std.specs.List.{range_with_len}
use Rattle.hyphenation_breaks.specs.Break.{plain_break}
use Rattle.hyphenation_hyphenator.specs.Opportunities.{is_odd, within}
use Rattle.hyphenation_hyphenator.proofs.hyphenator.pattern_breaks.odd_places_in_turn.Given as goal

abbrev pub invariant-loop-place : goal.invariant-loop-place
invariant-loop-place g l = map g.F.Break.meaning l.list.items ≡ map plain_break (filter (λ place. is_odd (slice_index l.values (place - 1)) && within l.fn.bounds place) (range_with_len l.first (l.place - l.first)))
