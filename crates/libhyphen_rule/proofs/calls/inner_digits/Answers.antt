use Rattle.std.proofs.Common.{◌∙◌, ℕ, [], ◌∷◌, ◌++◌, ap, map, sym}
use Rattle.std.specs.List.{range_with_len}
use Rattle.std.proofs.lemmas.List.{map-append}
use Rattle.libhyphen_rule.specs.Calls.{inner_digit}
use Rattle.libhyphen_rule.proofs.WordSteps.{range_more}
use Rattle.libhyphen_rule.proofs.calls.inner_digits.Goals as goal

pub loop-byte-preserved : goal.loop-byte-preserved
loop-byte-preserved c =
    let n : ℕ = c.loop-byte.byte in
    let digit : ℕ → ℕ = inner_digit c.args.digits.now in
    c.in_ok-push.ensures.items ∙ (λ i. c.loop-byte.invariant i ++ c.inner_digit.ensures i ∷ [])
    ∙ sym (ap (map digit) (range_more n) ∙ map-append digit (range_with_len 0 n) (n ∷ []))
