use Rattle.std.proofs.Common.{◌≡◌, ◌≤◌, ℕ, length, get_or}
use Rattle.libhyphen_rule.specs.Found.{asked_in, minima_of}
use Rattle.libhyphen_rule.specs.Parts.{parted_up_to}
use Rattle.libhyphen_rule.specs.Private.PlainCompounds.{plain_found}
use Rattle.libhyphen_rule.proofs.Partings.{ask_at}
use Rattle.libhyphen_rule.proofs.plain_compounds.+plain_in.Given as goal

abbrev pub decreases-plain_in : goal.decreases-plain_in
decreases-plain_in l = l.depth

abbrev pub invariant-loop-byte : goal.invariant-loop-byte
invariant-loop-byte l = record {
  parted : parted_up_to (ask_at l.fn.levels.dictionary.now (minima_of l.fn.levels) l.depth) (asked_in l.fn.asked) (plain_found l.initial.digits l.parts) l.byte
      ≡ record { found = plain_found l.digits l.left; begin = l.begin; seen = l.fn.asked.text.now };
  begun : l.begin ≤ l.byte;
  long : length l.digits ≡ length l.fn.asked.text.now;
  behind : (k : ℕ) → l.byte ≤ k → get_or l.digits k 0 ≡ get_or l.initial.digits k 0;
}
