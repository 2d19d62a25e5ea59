use Rattle.hyphenation_text.specs.Words.{breaks_under}
use Rattle.hyphenation_text.proofs.laws.a_second_run_finds_no_break.Goals as goal

pub returns : goal.returns
returns c = λ text before after u.
    c.marked_texts_have_none_left.ensures (breaks_under c.args.settings.now c.args.dictionary.now) before after before after text c.limited_breaks_fit.ensures u (λ h. h) (λ h. h)
