use Rattle.std.proofs.Common.{◌≡◌, ◌∙◌, sym, ap, false, true, List, ℕ}
use Rattle.std.specs.Vec.{with_items}
use Rattle.std.proofs.lemmas.List.{with_items_is}
use Rattle.libhyphen_rule.specs.Calls.{begins_within, digits_by_no_hyphen, found_by_call}
use Rattle.libhyphen_rule.specs.Found.{found_of, placed_all}
use Rattle.libhyphen_rule.proofs.PlainCalls.{in_characters_is, whole_of_bytes, whole_of_utf8}
use Rattle.libhyphen_rule.proofs.calls.hyphenate.Goals.{else-utf8-via-then-utf8+else-begins_within, else-utf8-via-else-utf8}
use Rattle.libhyphen_rule.proofs.calls.hyphenate.Goals as goal

pub returns : goal.returns
returns c =
    let rules_now = c.args.dictionary.now in
    let text = c.args.text.now in
    let utf8 : rules_now.utf8 ≡ true = sym c.is_utf8-utf8.ensures ∙ c.if-not-utf8.false in
    let whole : begins_within rules_now text ≡ false = elim c.else-utf8.branch [
      | else-utf8-via-then-utf8+else-begins_within w ↦ whole_of_utf8 rules_now text (sym w.begins_within.ensures ∙ w.if-begins_within.false)
      | else-utf8-via-else-utf8 w ↦ whole_of_bytes rules_now text (sym c.is_utf8-utf8.ensures ∙ w.if-utf8.false)
    ] in
    let found : found_of c.in_ok-digits.field-0 ≡ found_by_call rules_now c.args.minima text c.args.size = c.in_ok-digits.ensures.found in
    let given = c.in_ok-digits.field-0 in
    let kept = with_items_is given.digits c.apply_no_hyphen.new.digits (c.apply_no_hyphen.auto.digits ∙ c.deref_mut.ensures.len) in
    let digits : List ℕ = (with_items given.digits c.apply_no_hyphen.new.digits).items in
    in_characters_is rules_now c.args.minima text c.args.size given.digits.items digits (placed_all given.changes.items) c.in_ok-answer.answer
    whole utf8 (sym (ap (λ f. f.digits) found)) (kept ∙ c.apply_no_hyphen.ensures ∙ ap (digits_by_no_hyphen rules_now c.args.minima text) c.deref_mut.ensures.value)
    (sym (ap (λ f. f.changes) found)) c.in_ok-answer.ensures.digits c.in_ok-answer.ensures.changes
    (c.in_ok-answer.ensures.made ∙ ap (λ f. f.made) found)
