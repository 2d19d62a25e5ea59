use Rattle.std.proofs.Common.{◌≡◌, ◌∙◌, [], ◌∷◌, ap, arith, sym, subst, take, None}
use Rattle.std.proofs.lemmas.Grind.{common_steps}
use Rattle.std.proofs.option.Match.{None-if_not_some}
use Rattle.hyphenation_dictionary.specs.Maker.{with_pair}
use Rattle.hyphenation_dictionary.specs.Parts.{patterns_of}
use Rattle.libhyphen_files.specs.Levels.{HasNoChanges}
use Rattle.libhyphen_files.proofs.ChangesLemmas.{inserted_without_change}
use Rattle.libhyphen_files.proofs.level.GrowingLevel.add_pattern.Goals as goal
use Rattle.libhyphen_files.proofs.level.GrowingLevel.add_pattern.Goals.{then-self, else-self}

pub returns-clause-growing : goal.returns-clause-growing
returns-clause-growing c = record {
  begins = c.in_ok-add_pattern.ensures.begins c.requires.growing.begins;
  changes = λ unset.
      elim c.if-self.branch [
        | then-self w ↦ absurd cc
        | else-self w ↦
            let none : c.pattern.inside.change ≡ None = None-if_not_some c.pattern.inside.change (sym w.is_some-has_changes.ensures ∙ sym w.has_changes-is ∙ unset) in
            let unchanging : c.args.pattern.change ≡ None = cc in
            let before = patterns_of c.args.self.now.patterns in
            let one : c.push.new.self.items ≡ c.args.pattern ∷ [] = grind (arith, common_steps, c.requires.growing.spare) in
            subst (λ m. HasNoChanges m)
            (sym (c.in_ok-add_pattern.ensures.added ∙ ap (λ items. with_pair before (take c.args.count c.deref.result.now, items)) one))
            (inserted_without_change before _ c.args.pattern (c.requires.growing.changes w.if-self.false) unchanging)
      ];
  spare = c.in_ok-add_pattern.ensures.moved;
}
