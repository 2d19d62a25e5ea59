use mir.Syntax.{w32}
use Rattle.std.proofs.Common.{◌≡◌, ℕ, ◌+◌, ◌-◌, length, drop, take, Some, None, ap, ◌∙◌, arith, sym}
use Rattle.std.specs.List.{after_first, position}
use Rattle.std.proofs.lemmas.Int.{to_z-of_z}
use Rattle.std.proofs.lemmas.Bool.{and_left}
use Rattle.libhyphen_rule.specs.Letters.{letters, letters_in_hundred}
use Rattle.libhyphen_rule.specs.Minima.{has_equals, is_below, is_equals}
use Rattle.libhyphen_rule.proofs.Equals.{FirstEquals, some_equals, none_equals, and_same, from_capped, rest_of}
use Rattle.libhyphen_rule.proofs.minima.is_short_after.Goals as goal

pub returns-in-Some : goal.returns-in-Some
returns-in-Some c =
    let text = c.args.change.now.text.now in
    let is : Some c.in-Some.equals ≡ position is_equals text = cc in
    let f : FirstEquals text c.in-Some.equals = some_equals text c.in-Some.equals is in
    let behind : drop c.saturating_add-region.result c.args.text.now ≡ drop (c.args.end - c.args.change.now.pos + c.args.change.now.cut) c.args.text.now =
    from_capped c.args.text.now _ _ (λ lt. omega arith) (λ le. omega arith) in
    let front : c.letters_in_hundred-count.result ≡ letters_in_hundred c.args.utf8 (drop (c.args.end - c.args.change.now.pos + c.args.change.now.cut) c.args.text.now) =
    c.letters_in_hundred-count.ensures ∙ ap (letters_in_hundred c.args.utf8) (c.text_from.ensures ∙ behind) in
    let own : take (length text - (c.in-Some.equals + 1)) (drop (c.in-Some.equals + 1) text) ≡ after_first is_equals text =
    rest_of text (c.in-Some.equals + 1) ∙ ap (λ (n : ℕ). drop (n + 1) text) f.first in
    and_same c.is_below.result (has_equals text) _ f.has
    (c.is_below.ensures
    ∙ ap (is_below (c.letters_in_hundred-count.result + letters c.args.utf8 (take (length text - (c.in-Some.equals + 1)) (drop (c.in-Some.equals + 1) text))))
    (to_z-of_z w32 c.args.least c.ranges.least)
    ∙ ap (λ (n : ℕ). is_below (n + letters c.args.utf8 (take (length text - (c.in-Some.equals + 1)) (drop (c.in-Some.equals + 1) text))) c.args.least) front
    ∙ ap (λ xs. is_below (letters_in_hundred c.args.utf8 (drop (c.args.end - c.args.change.now.pos + c.args.change.now.cut) c.args.text.now) + letters c.args.utf8 xs) c.args.least) own)

pub returns-in-None : goal.returns-in-None
returns-in-None c =
    let text = c.args.change.now.text.now in
    let is : None ≡ position is_equals text = cc in
    sym (and_left (has_equals text) _ (none_equals text is))
