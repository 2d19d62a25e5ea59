use Rattle.std.proofs.Common.{◌≡◌, ℕ, ◌+◌, ◌-◌, take, Some, None, ap, ◌∙◌, arith, sym}
use mir.Syntax.{w32}
use Rattle.std.proofs.lemmas.Int.{to_z-of_z}
use Rattle.std.specs.List.{before_first, position}
use Rattle.std.proofs.lemmas.Bool.{and_left}
use Rattle.libhyphen_rule.specs.Letters.{letters, letters_in_first}
use Rattle.libhyphen_rule.specs.Minima.{has_equals, is_below, is_equals}
use Rattle.libhyphen_rule.proofs.Equals.{FirstEquals, some_equals, none_equals, and_same}
use Rattle.libhyphen_rule.proofs.minima.is_short_before.Goals as goal

pub returns-in-Some : goal.returns-in-Some
returns-in-Some c =
    let text = c.args.change.now.text.now in
    let is : Some c.in-Some.equals ≡ position is_equals text = cc in
    let f : FirstEquals text c.in-Some.equals = some_equals text c.in-Some.equals is in
    let own : take c.in-Some.equals text ≡ before_first is_equals text = ap (λ (n : ℕ). take n text) f.first in
    let region : c.saturating_sub-region.result ≡ c.args.end - c.args.change.now.pos = omega (arith, c.saturating_sub-region.ensures) in
    and_same c.is_below.result (has_equals text) _ f.has
    (c.is_below.ensures
    ∙ ap (is_below (c.letters_in_first-count.result + letters c.args.utf8 (take c.in-Some.equals text))) (to_z-of_z w32 c.args.least c.ranges.least)
    ∙ ap (λ (n : ℕ). is_below (n + letters c.args.utf8 (take c.in-Some.equals text)) c.args.least) c.letters_in_first-count.ensures
    ∙ ap (λ (n : ℕ). is_below (letters_in_first c.args.utf8 c.args.text.now n + letters c.args.utf8 (take c.in-Some.equals text)) c.args.least) region
    ∙ ap (λ xs. is_below (letters_in_first c.args.utf8 c.args.text.now (c.args.end - c.args.change.now.pos) + letters c.args.utf8 xs) c.args.least) own)

pub returns-in-None : goal.returns-in-None
returns-in-None c =
    let text = c.args.change.now.text.now in
    let is : None ≡ position is_equals text = cc in
    sym (and_left (has_equals text) _ (none_equals text is))
