use Rattle.std.proofs.Common.{rules, ◌≡◌, ◌∙◌, ℕ, ◌+◌, ◌-◌, List, length, take, drop, refl, sym, ap, arith}
use Rattle.std.specs.List.{list_any}
use Rattle.std.proofs.lemmas.List.{take-take}
use Rattle.libhyphen_rule.specs.OneLevel.{is_odd}
use Rattle.libhyphen_rule.proofs.OddLanes.{any_but_last}
use Rattle.libhyphen_rule.proofs.plain_words.put_short.Goals as goal

pub returns-clause-odd : goal.returns-clause-odd
returns-clause-odd c =
    let inner : ℕ = length c.args.digits.now - 1 in
    let list : List ℕ = c.write_all.new.list in
    let copied : List ℕ = c.copy_from_slice.new.self in
    let from : copied ≡ take (inner + 1) (drop 16 list) = search rules in
    let long : length copied ≡ inner + 1 = search rules in
    c.has_odd.ensures
    ∙ ap (list_any is_odd) (sym (take-take inner (inner + 1) (drop 16 list) (omega arith)) ∙ sym (ap (take inner) from))
    ∙ sym (any_but_last is_odd copied inner 48 refl long)
