use Rattle.std.proofs.Common.{sym, arith}
use Rattle.libhyphen_rule.proofs.LetterCounts.{letters_in_none, letters_more, letters_at_most_two}
use Rattle.libhyphen_rule.proofs.letters.letters_in_first.Goals as goal

pub loop-at-init : goal.loop-at-init
loop-at-init c = record { count = sym (letters_in_none c.args.utf8 c.args.text.now); few = omega arith }

pub loop-at-preserved : goal.loop-at-preserved
loop-at-preserved c = record {
  count = omega (arith, letters_more c.args.utf8 c.args.text.now c.loop-at.at, c.letters_at-count.ensures);
  few = omega (arith, letters_at_most_two c.args.utf8 c.args.text.now c.loop-at.at, c.letters_at-count.ensures);
}
