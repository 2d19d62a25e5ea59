use Rattle.std.proofs.Common.{sym, ◌∙◌}
use Rattle.hyphenation_hyphenator.proofs.FoldingRows.{common_capital_folds}
use Rattle.hyphenation_hyphenator.proofs.case_folding.folded_number.Goals as goal

pub returns-then-is_common_capital : goal.returns-then-is_common_capital
returns-then-is_common_capital c = sym (common_capital_folds c.args.c (sym c.is_common_capital.ensures ∙ c.if-is_common_capital.true))
