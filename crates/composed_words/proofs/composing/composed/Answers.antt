use Rattle.std.proofs.Common.{sym, ap, ◌∙◌}
use Rattle.std.specs.Str.{bytes_eq}
use Rattle.std.proofs.lemmas.Slice.Eq.{bytes_eq-Decides}
use Rattle.composed_words.specs.Composed.{composed, is_composed}
use Rattle.composed_words.proofs.composing.composed.Goals as goal

pub returns-then-eq-clause-none : goal.returns-then-eq-clause-none
unfolding composed is_composed
returns-then-eq-clause-none c =
    ap (λ text. bytes_eq text c.args.word.now) (sym (c.as_str.ensures.value ∙ c.in_ok-text.ensures)) ∙ sym c.eq.ensures ∙ c.if-eq.true

pub returns-clause-some : goal.returns-clause-some
unfolding composed
returns-clause-some c = c.in_ok-text.ensures

pub returns-clause-differs : goal.returns-clause-differs
unfolding composed is_composed
returns-clause-differs c =
    ap (λ text. bytes_eq text c.args.word.now) (sym (c.as_str.ensures.value ∙ c.in_ok-text.ensures)) ∙ sym c.eq.ensures ∙ c.if-eq.false
