use Rattle.std.proofs.Common.{[], ◌∷◌}
use Rattle.std.proofs.lemmas.List.Sums.{fold-append}
use Rattle.hyphenation_hyphenator.specs.Fitting.{keep_break, range_keeps_lengths, kept_breaks, fitted_breaks}
use Rattle.hyphenation_hyphenator.proofs.hyphenator.laws.one_more_break_is_kept.Goals as goal

pub returns : goal.returns
unfolding fitted_breaks kept_breaks
returns c = λ word breaks b. fold-append (keep_break (range_keeps_lengths word)) [] breaks (b ∷ [])
