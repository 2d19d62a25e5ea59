use Rattle.std.proofs.Common.{◌≡◌, ◌∙◌, ap, rules, ℕ, Bool, List, w32, to_z, of_z}
use Rattle.std.proofs.lemmas.List.{with_items_is}
use Rattle.std.specs.Prelude.{ℤ, Option}
use Rattle.libhyphen_rule.specs.Found.{placed_all}
use Rattle.libhyphen_rule.specs.Minima.{changes_but, digits_but, left_goes}
use Rattle.libhyphen_rule.specs.declared.one_level.PlacedChange.{PlacedChange}
use Rattle.libhyphen_rule.proofs.calls.without_left.Goals as goal

pub returns-clause-found : goal.returns-clause-found
returns-clause-found c =
    let fits : to_z w32 (of_z w32 c.args.least) ≡ c.args.least = search rules in
    let goes : ℤ → List (Option PlacedChange) → ℕ → Bool = λ least xs. left_goes c.args.utf8 least c.args.text.now (placed_all xs) in
    let digits : c.take_left.new.digits ≡ digits_but (goes c.args.least c.args.found.changes.items) c.args.found.digits.items =
    c.take_left.ensures.digits
    ∙ (λ i. digits_but (goes (fits i) (c.deref_mut-2.ensures.value i)) (c.deref_mut.ensures.value i)) in
    let changes : placed_all c.take_left.new.changes
    ≡ changes_but (goes c.args.least c.args.found.changes.items) (placed_all c.args.found.changes.items) =
    c.take_left.ensures.changes
    ∙ (λ i. changes_but (goes (fits i) (c.deref_mut-2.ensures.value i)) (placed_all (c.deref_mut-2.ensures.value i))) in
    let kept = with_items_is c.args.found.digits c.take_left.new.digits (c.take_left.auto.digits ∙ c.deref_mut.ensures.len) in
    let kept_changes = with_items_is c.args.found.changes c.take_left.new.changes (c.take_left.auto.changes ∙ c.deref_mut-2.ensures.len) in
    λ i. record {
      digits = (kept ∙ digits) i;
      changes = (ap placed_all kept_changes ∙ changes) i;
      made = c.args.found.made;
      parts = c.args.found.parts;
    }
