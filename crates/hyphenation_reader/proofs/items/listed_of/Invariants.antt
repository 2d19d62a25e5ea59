use Rattle.std.proofs.Common.{◌≡◌, ◌++◌, drop, length, map}
use Rattle.hyphenation_reader.specs.Private.LineAnswers.{breaks_listed}
use Rattle.hyphenation_reader.proofs.items.listed_of.Given as goal

abbrev pub invariant-loop-at : goal.invariant-loop-at
invariant-loop-at g l = record {
  count : length l.listed.items ≡ length l.fn.listed.items;
  made : l.found.items ++ map g.B.Listing.listing_of (breaks_listed (drop l.at l.listed.items)) ≡ map g.B.Listing.listing_of (breaks_listed l.fn.listed.items);
}
