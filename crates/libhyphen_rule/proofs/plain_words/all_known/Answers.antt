use Rattle.std.proofs.Common.{◌≡◌, ℕ, ltb, Bool, true, false, cond, List, length, get_or, replicate, ap, sym, ◌∙◌, ◌/◌, ◌%◌, ◌^◌, arith, w8, refl}
use lib.Lanes.{zip2, mask_l}
use Rattle.std.proofs.Math.Nat.{zero-div}
use Rattle.std.proofs.lemmas.Bool.{eqb-true, ltb-false}
use Rattle.std.proofs.lemmas.Simd.{tops_compared, mask_l-mod, bit_mask_l, length-zip2, get_or-zip2, get_or-replicate}
use Rattle.libhyphen_rule.proofs.plain_words.all_known.Goals as goal

unset : (b : Bool) → ◌≡◌ {A = ℕ} (cond b 1 0) 0 → b ≡ false
unset true is = absurd (omega arith)
unset false is = refl

pub returns : goal.returns
returns c is lane lt =
    let nines : List ℕ = replicate 16 9 in
    let seen : List ℕ = c.args.seen in
    let tests : List Bool = zip2 ltb nines seen in
    let long : length tests ≡ 16 = length-zip2 ltb nines seen (omega arith) in
    let whole = eqb-true _ 0 is in
    let none : mask_l tests ≡ 0 =
    sym (mask_l-mod tests 64 (omega arith)) ∙ sym (ap (λ ms. mask_l ms % 2 ^ 64) (tops_compared w8 ltb nines seen)) ∙ whole in
    let bit : ◌≡◌ {A = ℕ} (cond (get_or tests lane false) 1 0) 0 =
    sym (bit_mask_l tests lane) ∙ ap (λ n. n / 2 ^ lane % 2) none ∙ ap (λ n. n % 2) (zero-div (2 ^ lane)) in
    let low : ltb (get_or nines lane 0) (get_or seen lane 0) ≡ false =
    sym (get_or-zip2 ltb nines seen lane 0 0 false (omega arith) (omega arith)) ∙ unset (get_or tests lane false) bit in
    let nine : get_or nines lane 0 ≡ 9 = get_or-replicate 16 lane 9 0 lt in
    omega (arith, ltb-false (get_or nines lane 0) (get_or seen lane 0) low, nine)
