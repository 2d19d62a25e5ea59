use Rattle.std.proofs.Common.{◌<◌, ℕ, slice_index}
use Rattle.hyphenation_trie.proofs.table.split.split_of.Given as goal

abbrev pub invariant-loop-number : goal.invariant-loop-number
invariant-loop-number l = (j : ℕ) → j < l.number-index → slice_index l.numbers j < 1024
