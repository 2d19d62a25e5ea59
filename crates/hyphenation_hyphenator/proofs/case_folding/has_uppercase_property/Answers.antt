use Rattle.std.proofs.Common.{rules, tests, sym, ◌∙◌}
use Rattle.hyphenation_hyphenator.proofs.CapitalRanges.{is_uppercase_ascii}
use Rattle.hyphenation_hyphenator.proofs.CommonLowercase.{small_not_upper}
use Rattle.hyphenation_hyphenator.proofs.case_folding.has_uppercase_property.Goals as goal

pub returns-then-is_ascii : goal.returns-then-is_ascii
returns-then-is_ascii c = c.is_ascii_uppercase.ensures.value ∙ is_uppercase_ascii c.args.c (search (rules, tests))

pub returns-then-is_common_lowercase : goal.returns-then-is_common_lowercase
returns-then-is_common_lowercase c = sym (small_not_upper c.args.c (sym c.is_common_lowercase.ensures ∙ c.if-is_common_lowercase.true))
