use Rattle.std.proofs.Common.{◌≡◌, ◌≤◌, ◌+◌, length, None}
use Rattle.libhyphen_rule.specs.Found.{placed_all}
use Rattle.libhyphen_rule.specs.Letters.{characters_from}
use Rattle.libhyphen_rule.specs.Minima.{right_goes}
use Rattle.libhyphen_rule.proofs.Taken.{Taken}
use Rattle.libhyphen_rule.proofs.minima.take_right.Given as goal

abbrev pub invariant-loop-end : goal.invariant-loop-end
invariant-loop-end l = record {
  within : l.end ≤ length l.word;
  count : l.count ≡ characters_from l.utf8 l.word l.end;
  few : l.count + l.end ≤ length l.word;
  digits : Taken (right_goes l.utf8 l.least l.word l.text (placed_all l.fn.changes)) 48 0 l.fn.digits l.digits l.end (length l.word);
  changes : Taken (right_goes l.utf8 l.least l.word l.text (placed_all l.fn.changes)) None None (placed_all l.fn.changes) (placed_all l.changes) l.end (length l.word);
}

abbrev pub decreases-loop-end : goal.decreases-loop-end
decreases-loop-end l = l.end
