use Rattle.std.proofs.Common.{◌≡◌, ℕ, ◌+◌, ◌++◌, List, length, map, get_or, sym, ap, subst, arith}
use Rattle.std.proofs.lemmas.List.{append-nil}
use Rattle.std.specs.List.{range_with_len}
use Rattle.libhyphen_rule.specs.OneLevel.{Offer, offer_of}
use Rattle.libhyphen_rule.specs.Private.Digits.{HasDigits}
use Rattle.libhyphen_rule.proofs.Offers.{pattern_offers_more}
use Rattle.libhyphen_rule.proofs.digits.raise_all.Goals as goal

pub loop-number-init : goal.loop-number-init
loop-number-init c = λ given p start digits has. subst (λ (g : List Offer). HasDigits g c.args.digits.now) (sym (append-nil given)) has

pub loop-number-preserved : goal.loop-number-preserved
loop-number-preserved c = λ given p start digits has.
    let n : ℕ = c.loop-number.number in
    let before = c.loop-number.invariant given p start digits has in
    let next = c.raise.ensures (given ++ map (offer_of p) (range_with_len 0 n)) (offer_of p n) (ap (λ (k : ℕ). k + n) start) (ap (λ (xs : List ℕ). get_or xs n 0) digits) before in
    subst (λ (g : List Offer). HasDigits g c.raise.new.digits) (pattern_offers_more given p n) next

pub returns : goal.returns
returns c = λ given p start digits has.
    let end : c.loop-number.number ≡ length p.digits = omega (arith, ap length digits) in
    subst (λ (k : ℕ). HasDigits (given ++ map (offer_of p) (range_with_len 0 k)) c.loop-number.digits) end (c.loop-number.invariant given p start digits has)
