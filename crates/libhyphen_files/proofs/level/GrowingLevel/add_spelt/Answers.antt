use Rattle.hyphenation_dictionary.specs.Parts.{patterns_of}
use Rattle.libhyphen_files.proofs.SharedPatterns.{shared_without_change}
use Rattle.libhyphen_files.proofs.level.GrowingLevel.add_spelt.Goals as goal

pub returns-then-has_digits-clause-growing : goal.returns-then-has_digits-clause-growing
returns-then-has_digits-clause-growing c = record {
  begins = c.in_ok-add_like.ensures.begins c.requires.begins;
  changes = λ unset.
      shared_without_change (patterns_of c.args.self.now.patterns) (patterns_of c.add_like.new.patterns) c.args.self.now.patterns c.node_in-like.result _ _
      (c.requires.changes unset) (c.has_digits.ensures c.if-has_digits.true) c.in_ok-add_like.ensures.added;
  spare = c.requires.spare;
}
