use Rattle.std.proofs.Common.{◌≡◌, length, take}
use Rattle.hyphenation_dictionary.specs.Parts.{patterns_of}
use Rattle.hyphenation_trie.specs.Links.{IsLongest}
use Rattle.libhyphen_rule.specs.Counting.{framed, counted_up_to}
use Rattle.libhyphen_rule.specs.OneLevel.{offers}
use Rattle.libhyphen_rule.specs.Private.Cells.{HasCells}
use Rattle.libhyphen_rule.proofs.one_level.read_cells.Given as goal

abbrev pub invariant-loop-at : goal.invariant-loop-at
invariant-loop-at l = record {
  longest : IsLongest l.patterns.texts (take l.at (framed l.word)) l.node;
  len : length l.cells ≡ length l.fn.cells;
  has : HasCells (counted_up_to (patterns_of l.patterns) (framed l.word) l.at) (offers (counted_up_to (patterns_of l.patterns) (framed l.word) l.at)) l.cells;
}
