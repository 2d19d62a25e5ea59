use Rattle.std.proofs.Common.{◌≡◌, map, take}
use Rattle.hyphenation_hyphenator.specs.Opportunities.{breaks_within}
use Rattle.hyphenation_hyphenator.proofs.hyphenator.word_paths.listed_within.Given as goal

abbrev pub invariant-loop-b : goal.invariant-loop-b
invariant-loop-b g l = map g.F.Break.meaning l.list.items ≡ breaks_within (map g.F.Listing.Break.meaning (take l.b-index l.listed)) l.bounds
