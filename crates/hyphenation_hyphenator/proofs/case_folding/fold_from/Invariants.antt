use Rattle.std.proofs.Common.{string_bytes}
use Rattle.std.specs.Str.Iter.{chars_rest}
use Rattle.hyphenation_hyphenator.proofs.Refolding.{Refolding}
use Rattle.hyphenation_hyphenator.proofs.case_folding.fold_from.Given as goal

abbrev pub invariant-loop-c : goal.invariant-loop-c
invariant-loop-c l = record {
  can : (goal.iterator-loop-c).can_next l.c-iterator;
  finite : (goal.iterator-loop-c).is_finite l.c-iterator;
  holds : Refolding l.original (chars_rest l.c-iterator) (string_bytes l.folded) l.written l.shifts.items;
}
