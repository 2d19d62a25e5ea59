use Rattle.std.proofs.Common.{◌≡◌, ◌++◌, List, map}
use Rattle.std.specs.List.{range_with_len}
use Rattle.libhyphen_rule.specs.Counting.{Counted}
use Rattle.libhyphen_rule.specs.OneLevel.{Offer, offer_of}
use Rattle.libhyphen_rule.specs.Private.Digits.{HasDigits}
use Rattle.libhyphen_rule.proofs.digits.raise_all.Given as goal

abbrev pub invariant-loop-number : goal.invariant-loop-number
invariant-loop-number l =
    (given : List Offer) (c : Counted) → c.start ≡ l.start → c.digits ≡ l.given → HasDigits given l.fn.digits
    → HasDigits (given ++ map (offer_of c) (range_with_len 0 l.number)) l.digits
