use Rattle.std.proofs.Common.{◌≡◌, ◌+◌, ◌<◌, length, ap, ◌∙◌, arith}
use Rattle.libhyphen_rule.specs.Parts.{digits_with}
use Rattle.libhyphen_rule.proofs.PlacesOfParts.{digits_with-none, digits_with-more}
use Rattle.libhyphen_rule.proofs.parts.put_digits.Goals as goal

pub loop-j-init : goal.loop-j-init
loop-j-init c = digits_with-none _ _ _

pub loop-j-preserved : goal.loop-j-preserved
loop-j-preserved c =
    let within : c.args.begin + c.loop-j.j < length c.args.digits.now = omega arith in
    digits_with-more c.args.digits.now c.args.begin c.loop-j.j c.args.part.now c.loop-j.digits _ within c.loop-j.invariant c.digit_at.ensures

pub returns : goal.returns
returns c =
    let end : c.loop-j.j ≡ c.args.count = omega arith in
    c.loop-j.invariant ∙ ap (λ n. digits_with c.args.digits.now c.args.begin n c.args.part.now) end
