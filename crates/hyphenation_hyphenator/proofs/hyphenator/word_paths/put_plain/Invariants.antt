use Rattle.std.proofs.Common.{◌≡◌, map, take}
use Rattle.hyphenation_breaks.specs.Break.{plain_break}
use Rattle.hyphenation_hyphenator.proofs.hyphenator.word_paths.put_plain.Given as goal

abbrev pub invariant-loop-place : goal.invariant-loop-place
invariant-loop-place g l = map g.F.Break.meaning l.list.items ≡ map plain_break (take l.place-index l.places)
