use Rattle.std.proofs.Common.{refl, replicate}
use Rattle.hyphenation_trie.proofs.RegisterLanes.{moved_lane}
use Rattle.hyphenation_trie.proofs.register.moved.Goals as goal

pub returns-clause-each : goal.returns-clause-each
returns-clause-each c = λ lane lt. moved_lane c.args.register (replicate 16 0) lane c.requires refl lt
