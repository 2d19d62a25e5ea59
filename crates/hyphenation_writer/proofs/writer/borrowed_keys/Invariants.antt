use Rattle.std.proofs.Common.{◌≡◌, ◌++◌, drop}
use Rattle.hyphenation_dictionary.specs.Parts.{pair_views}
use Rattle.hyphenation_trie.specs.Keys.{key_views}
use Rattle.hyphenation_writer.proofs.writer.borrowed_keys.Given as goal

abbrev pub invariant-loop-key : goal.invariant-loop-key
invariant-loop-key g l = pair_views l.borrowed.items ++ key_views (drop l.key-index l.keys) ≡ key_views l.keys
