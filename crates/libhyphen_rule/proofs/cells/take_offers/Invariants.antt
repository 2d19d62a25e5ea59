use Rattle.std.proofs.Common.{◌≡◌, ◌++◌, List, length, map}
use Rattle.std.specs.List.{range_with_len}
use Rattle.libhyphen_rule.specs.Counting.{Counted}
use Rattle.libhyphen_rule.specs.OneLevel.{Offer, offer_of}
use Rattle.libhyphen_rule.specs.Private.Cells.{HasCells, IsBegin}
use Rattle.libhyphen_rule.specs.Private.Pass.{value_of}
use Rattle.libhyphen_rule.proofs.cells.take_offers.Given as goal

abbrev pub invariant-loop-number : goal.invariant-loop-number
invariant-loop-number l = record {
  size : length l.cells ≡ length l.fn.cells;
  taken : (counted : List Counted) (given : List Offer) (c : Counted) → c.start ≡ l.start → c.digits ≡ l.digits
      → c.change ≡ value_of l.change → IsBegin c.first (value_of l.change) l.begin → HasCells counted given l.fn.cells
      → HasCells counted (given ++ map (offer_of c) (range_with_len 0 l.number)) l.cells;
}
