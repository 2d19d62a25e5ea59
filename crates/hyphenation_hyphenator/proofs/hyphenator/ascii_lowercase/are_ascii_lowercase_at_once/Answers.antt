use Rattle.std.proofs.Common.{◌≡◌, ◌+◌, Bool, true, false, ◌&&◌, take, refl, ap, sym, ◌∙◌, arith}
use Rattle.std.specs.Char.{is_ascii_lowercase}
use Rattle.std.specs.List.{list_all}
use Rattle.std.proofs.lemmas.List.{take_all}
use Rattle.std.proofs.lemmas.List.Folds.{list_all_more}
use Rattle.hyphenation_hyphenator.proofs.hyphenator.ascii_lowercase.are_ascii_lowercase_at_once.Goals as goal

both : (a b x y : Bool) → (((a && b) && x) && y) ≡ ((a && x) && (b && y))
both true true x y = refl
both true false true y = refl
both true false false y = refl
both false b x y = refl

pub loop-at-init : goal.loop-at-init
loop-at-init g c = refl

pub loop-at-preserved : goal.loop-at-preserved
loop-at-preserved g c =
    let first = c.args.first.now in
    let last = c.args.last.now in
    let at = c.loop-at.at in
    let before = list_all is_ascii_lowercase (take at first) && list_all is_ascii_lowercase (take at last) in
    let x = c.is_ascii_lowercase-all.result in
    let y = c.is_ascii_lowercase-all-in-loop-at.result in
    ap (λ b. (b && x) && y) c.loop-at.invariant
    ∙ both (list_all is_ascii_lowercase (take at first)) (list_all is_ascii_lowercase (take at last)) x y
    ∙ ap (λ b. b && (list_all is_ascii_lowercase (take at last) && y)) (ap (λ b. list_all is_ascii_lowercase (take at first) && b) c.is_ascii_lowercase-all.ensures.value ∙ sym (list_all_more is_ascii_lowercase first at 0 (omega (arith, c.told-first))))
    ∙ ap (λ b. list_all is_ascii_lowercase (take (at + 1) first) && b) (ap (λ b. list_all is_ascii_lowercase (take at last) && b) c.is_ascii_lowercase-all-in-loop-at.ensures.value ∙ sym (list_all_more is_ascii_lowercase last at 0 (omega (arith, c.told-last))))

pub returns : goal.returns
returns g c =
    c.loop-at.invariant
    ∙ ap (λ bs. list_all is_ascii_lowercase bs && list_all is_ascii_lowercase (take c.loop-at.at c.args.last.now)) (take_all c.loop-at.at c.args.first.now (omega (arith, c.told-first)))
    ∙ ap (λ bs. list_all is_ascii_lowercase c.args.first.now && list_all is_ascii_lowercase bs) (take_all c.loop-at.at c.args.last.now (omega (arith, c.told-last)))
