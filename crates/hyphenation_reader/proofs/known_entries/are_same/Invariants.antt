use Rattle.std.proofs.Common.{◌≡◌, take}
use Rattle.hyphenation_reader.proofs.known_entries.are_same.Given as goal

abbrev pub invariant-loop-i : goal.invariant-loop-i
invariant-loop-i g l = take l.i l.entries ≡ take l.i l.others
