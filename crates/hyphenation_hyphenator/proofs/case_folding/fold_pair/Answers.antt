use Rattle.std.proofs.Common.{ap, sym, ◌∙◌, arith}
use Rattle.std.specs.Char.{encode_utf8}
use Rattle.hyphenation_hyphenator.specs.Folding.{fold_character}
use Rattle.hyphenation_hyphenator.proofs.InPlace.{common_pair_stays, encode_pair}
use Rattle.hyphenation_hyphenator.proofs.case_folding.fold_pair.Goals as goal

pub returns-clause-folded : goal.returns-clause-folded
returns-clause-folded c = ap encode_utf8 (ap fold_character (sym c.in_ok-c.ensures.value.1) ∙ sym c.folded_number-folding.ensures) ∙ encode_pair c.folded_number-folding.result (omega arith) (omega arith)

pub returns-then-is_common_pair-clause-in_place : goal.returns-then-is_common_pair-clause-in_place
returns-then-is_common_pair-clause-in_place c = (common_pair_stays c.args.first c.args.second (sym c.is_common_pair.ensures ∙ c.if-is_common_pair.true)).0

pub returns-then-is_common_pair-clause-folded : goal.returns-then-is_common_pair-clause-folded
returns-then-is_common_pair-clause-folded c = (common_pair_stays c.args.first c.args.second (sym c.is_common_pair.ensures ∙ c.if-is_common_pair.true)).1
