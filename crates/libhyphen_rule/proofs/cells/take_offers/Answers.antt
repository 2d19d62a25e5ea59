use Rattle.std.proofs.Common.{◌≡◌, ℕ, ◌+◌, ◌++◌, ◌∙◌, List, length, map, get_or, refl, sym, ap, subst, arith}
use Rattle.std.proofs.lemmas.List.{append-nil}
use Rattle.std.specs.List.{range_with_len}
use Rattle.libhyphen_rule.specs.OneLevel.{Offer, offer_of}
use Rattle.libhyphen_rule.specs.Private.Cells.{HasCells}
use Rattle.libhyphen_rule.proofs.Offers.{pattern_offers_more}
use Rattle.libhyphen_rule.proofs.cells.take_offers.Goals as goal

pub loop-number-init : goal.loop-number-init
loop-number-init c = record {
  size = refl;
  taken = λ counted given p start digits changes begins has. subst (λ (g : List Offer). HasCells counted g c.args.cells.now) (sym (append-nil given)) has;
}

pub loop-number-preserved : goal.loop-number-preserved
loop-number-preserved c = record {
  size = c.take_offer.auto.cells ∙ c.loop-number.invariant.size;
  taken = λ counted given p start digits changes begins has.
      let n : ℕ = c.loop-number.number in
      let before = c.loop-number.invariant.taken counted given p start digits changes begins has in
      let next = c.take_offer.ensures counted (given ++ map (offer_of p) (range_with_len 0 n)) (offer_of p n) (ap (λ (k : ℕ). k + n) start) (ap (λ (xs : List ℕ). get_or xs n 0) digits) changes begins before in
      subst (λ (g : List Offer). HasCells counted g c.take_offer.new.cells) (pattern_offers_more given p n) next;
}

pub returns : goal.returns
returns c = λ counted given p start digits changes begins has.
    let end : c.loop-number.number ≡ length p.digits = omega (arith, ap length digits) in
    subst (λ (k : ℕ). HasCells counted (given ++ map (offer_of p) (range_with_len 0 k)) c.loop-number.cells) end
    (c.loop-number.invariant.taken counted given p start digits changes begins has)
