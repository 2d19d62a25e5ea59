use Rattle.std.proofs.Common.{sym, subst}
use Rattle.std.specs.List.Sorted.{IsNonDecreasingBy}
use Rattle.hyphenation_hyphenator.specs.declared.case_folding.Shift.{Shift}
use Rattle.hyphenation_hyphenator.proofs.ShiftOrder.{shifts_in_order}
use Rattle.hyphenation_hyphenator.proofs.hyphenator.word_paths.shifts_are_in_order.Goals as goal

pub returns : goal.returns
returns c = subst (IsNonDecreasingBy (λ (s : Shift). s.index)) (sym c.requires) (shifts_in_order c.args.word.now c.utf8.word)
