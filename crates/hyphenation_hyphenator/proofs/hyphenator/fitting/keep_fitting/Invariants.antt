use Rattle.std.proofs.Common.{◌≡◌, map, take}
use Rattle.hyphenation_hyphenator.specs.Fitting.{kept_breaks}
use Rattle.hyphenation_hyphenator.specs.Private.Fitting.{range_holds_no_shift}
use Rattle.hyphenation_hyphenator.proofs.Fitting.{EndsAt}
use Rattle.hyphenation_hyphenator.proofs.hyphenator.fitting.keep_fitting.Given as goal

abbrev pub invariant-loop-b : goal.invariant-loop-b
invariant-loop-b g l = record {
  all : map g.B.Break.meaning l.kept.items ≡ kept_breaks (range_holds_no_shift l.length l.shifts) (map g.B.Break.meaning (take l.b-index l.breaks));
  ends : EndsAt (map g.B.Break.meaning l.kept.items) l.last_end;
}
