use Rattle.std.proofs.Common.{rules}
use Rattle.hyphenation_hyphenator.proofs.Refolding.{begins, same_length, new_length, folded_whole}
use Rattle.hyphenation_hyphenator.proofs.case_folding.fold_from.Goals as goal

pub loop-c-init : goal.loop-c-init
loop-c-init c = record {
  can = tt;
  finite = tt;
  holds = begins c.args.original.now _ _ c.args.start _ c.utf8.original c.requires.at_character c.requires.no_capital_before (search rules) (search rules) (search rules);
}

pub loop-c-preserved-in-Continue-branch-3 : goal.loop-c-preserved-in-Continue-branch-3
loop-c-preserved-in-Continue-branch-3 c = record {
  can = tt;
  finite = tt;
  holds = new_length _ _ _ _ _ _ _ c.in-Some.c _ c.loop-c.invariant.holds (search rules) (search rules) (search rules) _ _ (search rules) c.in_ok-push-2.ensures.items (search rules) (search rules);
}

pub loop-c-preserved : goal.loop-c-preserved
loop-c-preserved c = record {
  can = tt;
  finite = tt;
  holds = same_length _ _ _ _ _ _ _ c.in-Some.c _ c.loop-c.invariant.holds (search rules) (search rules) (search rules) (search rules);
}

pub returns-clause-folded : goal.returns-clause-folded
returns-clause-folded c = (folded_whole _ _ _ _ _ c.loop-c.invariant.holds (search rules)).0

pub returns-clause-shifts : goal.returns-clause-shifts
returns-clause-shifts c = (folded_whole _ _ _ _ _ c.loop-c.invariant.holds (search rules)).1
