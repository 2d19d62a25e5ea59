use Rattle.std.proofs.Common.{sym, subst}
use Rattle.std.specs.Bool.{IsFalse}
use Rattle.hyphenation_dictionary.specs.Parts.{patterns_of}
use Rattle.hyphenation_trie.specs.Trie.{Tree, EachBeginsKey}
use Rattle.libhyphen_files.specs.Levels.{HasNoChanges}
use Rattle.libhyphen_files.specs.Patterns.{Pattern}
use Rattle.libhyphen_files.proofs.level.GrowingLevel.freeze.Goals as goal

pub invariant_of-result : goal.invariant_of-result
invariant_of-result c =
    let same = sym c.in_ok-patterns.ensures in (
      subst (λ (t : Tree Pattern). EachBeginsKey t) same c.requires.begins,
      subst (λ (t : Tree Pattern). IsFalse c.args.self.has_changes → HasNoChanges (patterns_of t)) same c.requires.changes,
      c.in_ok-vectors.ensures,
      c.first_bytes-first_bytes.ensures,
    )

pub first_bytes-first_bytes-requires : goal.first_bytes-first_bytes-requires
first_bytes-first_bytes-requires c = subst (λ (t : Tree Pattern). EachBeginsKey t) (sym c.in_ok-patterns.ensures) c.requires.begins
