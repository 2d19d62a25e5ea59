use Rattle.std.proofs.Common.{◌≡◌, ◌∙◌, ap, sym, subst, IfOk}
use Rattle.std.specs.List.{before_first}
use Rattle.libhyphen_files.specs.Files.{Rules, is_next_level, level_of, rules_of_lines}
use Rattle.libhyphen_files.specs.Private.Growing.{level_in}
use Rattle.libhyphen_files.proofs.FilesLemmas.{texts, one_level, two_levels}
use Rattle.libhyphen_files.proofs.file.dictionary_of_lines.Goals as goal

pub returns : goal.returns
returns c =
    let utf8 = c.is_utf8_name-utf8.result in
    let first_level = c.in_ok-first_level-2.ensures.level ∙ ap (level_of utf8) c.before_next_level.ensures in
    let next_level = c.in_ok-next_level-2.ensures.level ∙ ap (level_of utf8) (c.before_next_level-2.ensures ∙ ap (before_first is_next_level) c.after_next_level.ensures) in
    subst (λ (x : Rules). IfOk c.dictionary_of_levels-2.result (λ dictionary. dictionary ≡ x))
    (two_levels c.args.charset.now utf8 (texts c.args.lines.now) (level_in c.in_ok-first_level-2.first_level) (level_in c.in_ok-next_level-2.next_level) (sym c.has_next_level.ensures ∙ c.if-not-has_next_level.false) first_level next_level
    ∙ ap (λ u. rules_of_lines c.args.charset.now u (texts c.args.lines.now)) c.is_utf8_name-utf8.ensures)
    c.dictionary_of_levels-2.ensures

pub returns-then-not-has_next_level : goal.returns-then-not-has_next_level
returns-then-not-has_next_level c =
    subst (λ (x : Rules). IfOk c.dictionary_of_levels.result (λ dictionary. dictionary ≡ x))
    (one_level c.args.charset.now c.is_utf8_name-utf8.result (texts c.args.lines.now) (level_in c.in_ok-first_level.first_level) (level_in c.in_ok-next_level.next_level) (sym c.has_next_level.ensures ∙ c.if-not-has_next_level.true) c.in_ok-next_level.ensures.level c.in_ok-first_level.ensures.level
    ∙ ap (λ u. rules_of_lines c.args.charset.now u (texts c.args.lines.now)) c.is_utf8_name-utf8.ensures)
    c.dictionary_of_levels.ensures
