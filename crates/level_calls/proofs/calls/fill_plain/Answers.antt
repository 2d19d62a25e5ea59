use Rattle.std.proofs.Common.{ℕ, List, length, sym, subst}
use Rattle.c_calls.specs.Statuses.{into}
use Rattle.level_calls.specs.Levels.{FillsOne}
use Rattle.level_calls.specs.declared.changes.LevelChange.{LevelChange}
use Rattle.level_calls.proofs.Listing.{no_changes_listed, no_texts_listed}
use Rattle.level_calls.proofs.calls.fill_plain.Goals as goal

pub returns-clause-changes : goal.returns-clause-changes
returns-clause-changes c =
    let buffer = into c.args.changes.now c.fill_word.new.changes c.args.said.now.changes c.fill_word.new.said.changes in
    subst (λ (listed : List LevelChange). FillsOne listed buffer c.fill_word.result) (sym (no_changes_listed (length c.args.plain.now))) c.fill_word.ensures.changes

pub returns-clause-texts : goal.returns-clause-texts
returns-clause-texts c =
    let buffer = into c.args.texts.now c.fill_word.new.texts c.args.said.now.texts c.fill_word.new.said.texts in
    subst (λ (listed : List ℕ). FillsOne listed buffer c.fill_word.result) (sym (no_texts_listed (length c.args.plain.now))) c.fill_word.ensures.texts
