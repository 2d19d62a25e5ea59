use Rattle.std.proofs.Common.{rules, nat_lt, tests}
use Rattle.std.proofs.lemmas.Iterator.Adapters.{YieldsList-from_rev_slice}
use Rattle.std.proofs.lemmas.Iterator.Search.{find_from_yields_List}
use Rattle.hyphenation_hyphenator.specs.declared.case_folding.Shift.{Shift}
use Rattle.hyphenation_hyphenator.proofs.case_folding.last_shift_below.Goals as goal

pub returns : goal.returns
returns c = find_from_yields_List (λ (shift : Shift). nat_lt shift.index c.args.i) _ _ _ c.find.ensures.ran (YieldsList-from_rev_slice c.args.shifts.now (search rules)) (λ x b q k. search (rules, tests))
