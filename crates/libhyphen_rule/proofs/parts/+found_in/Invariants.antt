use Rattle.std.proofs.Common.{◌≡◌, ◌≤◌, length}
use Rattle.libhyphen_rule.specs.Found.{asked_in, found_of, minima_of}
use Rattle.libhyphen_rule.specs.Parts.{parted_up_to}
use Rattle.libhyphen_rule.proofs.Partings.{ask_at}
use Rattle.libhyphen_rule.proofs.parts.+found_in.Given as goal

abbrev pub decreases-found_in : goal.decreases-found_in
decreases-found_in l = l.depth

abbrev pub invariant-loop-byte : goal.invariant-loop-byte
invariant-loop-byte l = record {
  parted : parted_up_to (ask_at l.fn.levels.dictionary.now (minima_of l.fn.levels) l.depth) (asked_in l.fn.asked) (found_of l.initial.found) l.byte
      ≡ record { found = found_of l.found; begin = l.begin; seen = l.seen.items };
  begun : l.begin ≤ l.byte;
  digits : length l.found.digits.items ≡ length l.fn.asked.text.now;
  changes : length l.found.changes.items ≡ length l.fn.asked.text.now;
  seen : length l.seen.items ≡ length l.fn.asked.text.now;
}
