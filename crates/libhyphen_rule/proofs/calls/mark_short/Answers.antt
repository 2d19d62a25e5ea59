use Rattle.std.proofs.Common.{◌≡◌, ◌∙◌, List, ℕ, Option, length, sym, subst, take}
use Rattle.std.proofs.lemmas.List.{length-take-le}
use Rattle.libhyphen_rule.specs.Calls.{found_by_call, text_of_call}
use Rattle.libhyphen_rule.specs.Private.PlainWords.{FindsPlain}
use Rattle.libhyphen_rule.specs.declared.calls.CallMinima.{CallMinima}
use Rattle.libhyphen_rule.proofs.PlainCalls.{written_with_minima, written_without_minima}
use Rattle.libhyphen_rule.proofs.calls.mark_short.Goals as goal

pub returns-in_default-clause-text : goal.returns-in_default-clause-text
returns-in_default-clause-text c =
    let rules_now = c.args.dictionary.now in
    let text = c.args.text.now in
    let size = c.args.size in
    let first : List ℕ = c.args.digits.now in
    let written : List ℕ = take c.mark_word.result c.mark_word.new.written in
    let long : length first ≡ length (take size text) = c.requires.digits ∙ sym (length-take-le size text c.requires.within) in
    subst (λ (given : Option CallMinima). written ≡ text_of_call rules_now given text size) (sym c.in_default.is)
    (written_without_minima rules_now text size first long written c.apply_no_hyphen_short.new.digits
    (subst (λ (given : Option CallMinima). FindsPlain (found_by_call rules_now given text size) first) c.in_default.is c.requires.found)
    c.mark_word.ensures.text c.apply_no_hyphen_short.ensures)

pub returns-clause-text : goal.returns-clause-text
returns-clause-text c =
    let rules_now = c.args.dictionary.now in
    let text = c.args.text.now in
    let size = c.args.size in
    let first : List ℕ = c.args.digits.now in
    let written : List ℕ = take c.mark_word-count.result c.mark_word-count.new.written in
    let long : length first ≡ length (take size text) = c.requires.digits ∙ sym (length-take-le size text c.requires.within) in
    subst (λ (given : Option CallMinima). written ≡ text_of_call rules_now given text size) (sym c.in-Some.is)
    (written_with_minima rules_now text size first long c.in-Some.given written
    (subst (λ (given : Option CallMinima). FindsPlain (found_by_call rules_now given text size) first) c.in-Some.is c.requires.found)
    c.mark_word-count.ensures.text)
