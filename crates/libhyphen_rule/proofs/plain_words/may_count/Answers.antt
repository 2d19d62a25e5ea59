use Rattle.std.proofs.Common.{arith}
use Rattle.libhyphen_rule.proofs.plain_words.may_count.Goals as goal

pub returns-clause-none : goal.returns-clause-none
returns-clause-none c not = record {
  dotted = c.may_begin.ensures.none c.if-may_begin.false;
  each = λ k next_level. c.loop-byte.invariant k (omega (arith, next_level));
}
