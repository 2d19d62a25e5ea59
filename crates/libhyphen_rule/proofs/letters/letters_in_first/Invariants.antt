use Rattle.std.proofs.Common.{◌≡◌, ◌≤◌, ◌*◌}
use Rattle.libhyphen_rule.specs.Letters.{letters_in_first}
use Rattle.libhyphen_rule.proofs.letters.letters_in_first.Given as goal

abbrev pub invariant-loop-at : goal.invariant-loop-at
invariant-loop-at l = record {
  count : l.count ≡ letters_in_first l.utf8 l.text l.at;
  few : l.count ≤ 2 * l.at;
}
