use Rattle.std.proofs.Common.{◌≡◌, ◌++◌, ◌-◌, ℕ, List, take, drop, replicate, slice_range, sym, ap, ◌∙◌, arith}
use Rattle.std.proofs.lemmas.Grind.{common_steps}
use Rattle.libhyphen_rule.specs.Found.{placed}
use Rattle.libhyphen_rule.proofs.WordsFound.{texts_equals, texts_zeros}
use Rattle.libhyphen_rule.proofs.parts.texts_at_change.Goals as goal

cut_range : (xs : List ℕ) (n : ℕ) → take (n - 0) (drop 0 xs) ≡ take n xs
cut_range xs n = grind (arith, common_steps)

pub returns-in_ok-text-in-Some : goal.returns-in_ok-text-in-Some
returns-in_ok-text-in-Some c =
    let seen = c.args.seen.now in
    let text = c.args.change.text.now in
    let kept = c.saturating_sub-kept.result in
    let whole_is : c.in_ok-whole-in-Some.whole.items ≡ take (c.args.end - c.args.change.pos) seen ++ take c.in-Some.equals text =
    c.in_ok-whole-in-Some.ensures
    ∙ ap (λ xs. take kept seen ++ xs) (c.deref.ensures.value ∙ c.in_ok-front-in-Some.ensures)
    ∙ ap (λ n. take n seen ++ take c.in-Some.equals text) c.saturating_sub-kept.ensures in
    texts_equals seen c.args.begin c.args.end (placed c.args.change) c.in-Some.equals c.in_ok-text-in-Some.text.items c.new.result.items
    (sym c.in-Some.ensures)
    (c.in_ok-text-in-Some.ensures ∙ ap (drop c.args.begin) (c.deref-in-Some.ensures.value ∙ whole_is)) c.new.ensures.items

pub returns-in_ok-behind-in-None : goal.returns-in_ok-behind-in-None
returns-in_ok-behind-in-None c =
    let seen = c.args.seen.now in
    let text = c.args.change.text.now in
    let kept = c.saturating_sub-kept.result in
    let whole_is : c.in_ok-whole-in-None.whole.items ≡ take (c.args.end - c.args.change.pos) seen ++ text ++ replicate c.args.end 0 =
    c.in_ok-whole-in-None.ensures
    ∙ ap (λ xs. xs ++ c.deref-in-None-2.result.now) (c.deref-in-None.ensures.value ∙ c.in_ok-changed-in-None.ensures)
    ∙ ap (λ xs. take kept seen ++ text ++ xs) (c.deref-in-None-2.ensures.value ∙ c.in_ok-zeros-in-None.ensures)
    ∙ ap (λ n. take n seen ++ text ++ replicate c.args.end 0) c.saturating_sub-kept.ensures in
    texts_zeros seen c.args.begin c.args.end (placed c.args.change) c.in_ok-whole-in-None.whole.items c.in_ok-text-in-None.text.items c.in_ok-behind-in-None.behind.items
    (sym c.in-None.ensures) whole_is
    (c.in_ok-text-in-None.ensures ∙ ap (λ xs. slice_range xs c.args.begin c.args.end) c.deref-in-None-3.ensures.value)
    (c.in_ok-behind-in-None.ensures ∙ ap (drop c.args.end) c.deref-in-None-4.ensures.value)
