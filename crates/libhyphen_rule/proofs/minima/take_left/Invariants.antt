use Rattle.std.proofs.Common.{◌≡◌, ◌≤◌, ◌*◌, None}
use Rattle.libhyphen_rule.specs.Found.{placed_all}
use Rattle.libhyphen_rule.specs.Letters.{letters_in_first}
use Rattle.libhyphen_rule.specs.Minima.{left_goes}
use Rattle.libhyphen_rule.proofs.Taken.{Taken}
use Rattle.libhyphen_rule.proofs.minima.take_left.Given as goal

abbrev pub invariant-loop-byte : goal.invariant-loop-byte
invariant-loop-byte l = record {
  count : l.count ≡ letters_in_first l.utf8 l.text l.byte;
  few : l.count ≤ 2 * l.byte;
  digits : Taken (left_goes l.utf8 l.least l.text (placed_all l.fn.changes)) 48 0 l.fn.digits l.digits 0 l.byte;
  changes : Taken (left_goes l.utf8 l.least l.text (placed_all l.fn.changes)) None None (placed_all l.fn.changes) (placed_all l.changes) 0 l.byte;
}
