use Rattle.std.proofs.Common.{sym, subst}
use Rattle.hyphenation_dictionary.specs.Parts.{patterns_of}
use Rattle.hyphenation_trie.specs.Trie.{Tree, EachBeginsKey}
use Rattle.libhyphen_files.specs.Levels.{HasNoChanges}
use Rattle.libhyphen_files.specs.Patterns.{Pattern}
use Rattle.libhyphen_files.proofs.ChangesLemmas.{no_keys_begin, no_keys_change}
use Rattle.libhyphen_files.proofs.level.GrowingLevel.with_room.Goals as goal

pub returns-clause-growing : goal.returns-clause-growing
returns-clause-growing c = record {
  begins = subst (λ (t : Tree Pattern). EachBeginsKey t) (sym c.in_ok-with_room.ensures) no_keys_begin;
  changes = λ unset. subst (λ (t : Tree Pattern). HasNoChanges (patterns_of t)) (sym c.in_ok-with_room.ensures) no_keys_change;
  spare = c.new-3.ensures.items;
}
