use Rattle.std.proofs.Common.{◌≡◌, ◌+◌, Bool, true, false, ◌&&◌, take, refl, ap, sym, ◌∙◌, arith}
use Rattle.std.specs.Char.{is_ascii}
use Rattle.std.specs.List.{list_all}
use Rattle.std.proofs.lemmas.List.{take_all}
use Rattle.std.proofs.lemmas.List.Folds.{list_all_more}
use Rattle.c_calls.proofs.utf8.are_ascii_at_once.Goals as goal

both : (a b x y : Bool) → (((a && b) && x) && y) ≡ ((a && x) && (b && y))
both true true x y = refl
both true false true y = refl
both true false false y = refl
both false b x y = refl

pub loop-at-init : goal.loop-at-init
loop-at-init g c = refl

pub loop-at-preserved : goal.loop-at-preserved
loop-at-preserved g c =
    let first = c.args.first.now in
    let last = c.args.last.now in
    let at = c.loop-at.at in
    let x = c.is_ascii-all.result in
    let y = c.is_ascii-all-in-loop-at.result in
    ap (λ b. (b && x) && y) c.loop-at.invariant
    ∙ both (list_all is_ascii (take at first)) (list_all is_ascii (take at last)) x y
    ∙ ap (λ b. b && (list_all is_ascii (take at last) && y)) (ap (λ b. list_all is_ascii (take at first) && b) c.is_ascii-all.ensures ∙ sym (list_all_more is_ascii first at 0 (omega (arith, c.told-first))))
    ∙ ap (λ b. list_all is_ascii (take (at + 1) first) && b) (ap (λ b. list_all is_ascii (take at last) && b) c.is_ascii-all-in-loop-at.ensures ∙ sym (list_all_more is_ascii last at 0 (omega (arith, c.told-last))))

pub returns : goal.returns
returns g c =
    c.loop-at.invariant
    ∙ ap (λ bs. list_all is_ascii bs && list_all is_ascii (take c.loop-at.at c.args.last.now)) (take_all c.loop-at.at c.args.first.now (omega (arith, c.told-first)))
    ∙ ap (λ bs. list_all is_ascii c.args.first.now && list_all is_ascii bs) (take_all c.loop-at.at c.args.last.now (omega (arith, c.told-last)))
