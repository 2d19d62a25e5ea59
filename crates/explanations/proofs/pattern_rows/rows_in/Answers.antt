use Rattle.std.proofs.Common.{◌+◌, ◌*◌, length, arith}
use Rattle.std.proofs.lemmas.Nat.{mul-le}
use Rattle.explanations.proofs.pattern_rows.rows_in.Goals as goal

pub returns-in_err-push_rows_from-clause-look_ups : goal.returns-in_err-push_rows_from-clause-look_ups
returns-in_err-push_rows_from-clause-look_ups g c = λ longest none.
    omega (
      arith,
      c.loop-start.invariant.by_longest longest none,
      c.push_rows_from.ensures.made_by_longest longest none,
      mul-le (c.loop-start.start + 1) (2 * longest + 2) (length c.args.framed.now) (2 * longest + 2) (omega arith) (omega arith),
    )

pub loop-start-preserved : goal.loop-start-preserved
loop-start-preserved g c = record {
  so_far = c.in_ok-push_rows_from.ensures.rows;
  made = omega (arith, c.loop-start.invariant.made, c.push_rows_from.ensures.made);
  by_longest = λ longest none. omega (arith, c.loop-start.invariant.by_longest longest none, c.push_rows_from.ensures.made_by_longest longest none);
  reported = omega (arith, c.loop-start.invariant.reported, c.push_rows_from.ensures.reported);
}
