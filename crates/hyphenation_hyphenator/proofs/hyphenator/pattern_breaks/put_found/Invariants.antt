use Rattle.std.proofs.Common.{◌≡◌, ◌≤◌, length, map, take}
use Rattle.hyphenation_breaks.specs.Break.{plain_break}
use Rattle.hyphenation_hyphenator.proofs.hyphenator.pattern_breaks.put_found.Given as goal

abbrev pub invariant-loop-place : goal.invariant-loop-place
invariant-loop-place g l = record {
  breaks : map g.F.Break.meaning l.list.items ≡ map plain_break (take l.place-index l.found);
  count : l.list.len ≡ l.place-index;
  room : length l.found ≤ l.list.cap;
}
