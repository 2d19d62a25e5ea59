use Rattle.std.proofs.Common.{◌≡◌, not}
use Rattle.std.specs.List.{list_all}
use Rattle.hyphenation_hyphenator.specs.Private.Opportunities.{is_unchanged}
use Rattle.hyphenation_hyphenator.proofs.PlacesByRanks.{places_up_to}
use Rattle.hyphenation_hyphenator.proofs.hyphenator.pattern_breaks.may_change.Given as goal

abbrev pub invariant-loop-place : goal.invariant-loop-place
invariant-loop-place l = l.changed ≡ not (list_all (is_unchanged l.ranks) (places_up_to l.ranks l.fn.bounds l.first l.place))
