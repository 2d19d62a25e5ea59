use Rattle.std.proofs.Common.{◌≡◌, ◌≤◌, ◌-◌, ◌&&◌, filter, length, slice_index, take}
use Rattle.std.specs.List.{range_with_len}
use Rattle.hyphenation_hyphenator.specs.Opportunities.{is_odd, within}
use Rattle.hyphenation_hyphenator.proofs.hyphenator.pattern_breaks.write_odd_places.Given as goal

abbrev pub invariant-loop-place : goal.invariant-loop-place
invariant-loop-place l = record {
  room : length l.found ≡ 64;
  short : l.count ≤ 64;
  few : l.count ≤ l.place - l.first;
  places : take l.count l.found
      ≡ filter (λ place. is_odd (slice_index l.values (place - 1)) && within l.fn.bounds place) (range_with_len l.first (l.place - l.first));
}
