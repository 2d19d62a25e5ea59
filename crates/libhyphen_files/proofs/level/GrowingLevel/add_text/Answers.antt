use Rattle.std.proofs.Common.{◌∙◌, ap, sym, arith}
use Rattle.std.proofs.lemmas.Grind.{common_steps}
use Rattle.std.specs.Option.{option_map}
use Rattle.libhyphen_files.specs.Patterns.{Pattern, key_of}
use Rattle.libhyphen_files.specs.Private.Growing.{level_in, with_key}
use Rattle.libhyphen_files.proofs.LevelsLemmas.{taken, value_taken, not_taken, with_left, with_right, with_compound_left, with_compound_right, with_no_hyphen, with_other}
use Rattle.libhyphen_files.proofs.level.GrowingLevel.add_text.Goals as goal

pub returns-in-Some-clause-added : goal.returns-in-Some-clause-added
returns-in-Some-clause-added c =
    let l = taken _ _ _ (sym c.setting.ensures ∙ c.in-Some.is) in
    let n = value_taken _ _ _ (sym c.setting.ensures ∙ c.in-Some.is) in
    grind (arith, common_steps) ∙ sym (with_left c.args.utf8 (level_in c.args.self.now) c.args.line.now l)

pub returns-in-Some-setting-clause-added : goal.returns-in-Some-setting-clause-added
returns-in-Some-setting-clause-added c =
    let l = not_taken _ _ (sym c.setting.ensures ∙ c.in_default.is) in
    let r = taken _ _ _ (sym c.setting-2.ensures ∙ c.in-Some-setting.is) in
    let n = value_taken _ _ _ (sym c.setting-2.ensures ∙ c.in-Some-setting.is) in
    grind (arith, common_steps) ∙ sym (with_right c.args.utf8 (level_in c.args.self.now) c.args.line.now l r)

pub returns-in-Some-setting-2-clause-added : goal.returns-in-Some-setting-2-clause-added
returns-in-Some-setting-2-clause-added c =
    let l = not_taken _ _ (sym c.setting.ensures ∙ c.in_default.is) in
    let r = not_taken _ _ (sym c.setting-2.ensures ∙ c.in_default-setting.is) in
    let cl = taken _ _ _ (sym c.setting-3.ensures ∙ c.in-Some-setting-2.is) in
    let n = value_taken _ _ _ (sym c.setting-3.ensures ∙ c.in-Some-setting-2.is) in
    grind (arith, common_steps) ∙ sym (with_compound_left c.args.utf8 (level_in c.args.self.now) c.args.line.now l r cl)

pub returns-in-Some-setting-3-clause-added : goal.returns-in-Some-setting-3-clause-added
returns-in-Some-setting-3-clause-added c =
    let l = not_taken _ _ (sym c.setting.ensures ∙ c.in_default.is) in
    let r = not_taken _ _ (sym c.setting-2.ensures ∙ c.in_default-setting.is) in
    let cl = not_taken _ _ (sym c.setting-3.ensures ∙ c.in_default-setting-2.is) in
    let cr = taken _ _ _ (sym c.setting-4.ensures ∙ c.in-Some-setting-3.is) in
    let n = value_taken _ _ _ (sym c.setting-4.ensures ∙ c.in-Some-setting-3.is) in
    grind (arith, common_steps) ∙ sym (with_compound_right c.args.utf8 (level_in c.args.self.now) c.args.line.now l r cl cr)

pub returns-in-Some-without_name-clause-added : goal.returns-in-Some-without_name-clause-added
returns-in-Some-without_name-clause-added c =
    let l = not_taken _ _ (sym c.setting.ensures ∙ c.in_default.is) in
    let r = not_taken _ _ (sym c.setting-2.ensures ∙ c.in_default-setting.is) in
    let cl = not_taken _ _ (sym c.setting-3.ensures ∙ c.in_default-setting-2.is) in
    let cr = not_taken _ _ (sym c.setting-4.ensures ∙ c.in_default-setting-3.is) in
    let named = sym c.without_name.ensures ∙ ap (option_map (λ text. text.now)) c.in-Some-without_name.is in
    let no = taken _ _ _ named in
    let rest = value_taken _ _ _ named in
    grind (arith, common_steps) ∙ sym (with_no_hyphen c.args.utf8 (level_in c.args.self.now) c.args.line.now l r cl cr no)

pub returns-clause-added : goal.returns-clause-added
returns-clause-added c =
    let l = not_taken _ _ (sym c.setting.ensures ∙ c.in_default.is) in
    let r = not_taken _ _ (sym c.setting-2.ensures ∙ c.in_default-setting.is) in
    let cl = not_taken _ _ (sym c.setting-3.ensures ∙ c.in_default-setting-2.is) in
    let cr = not_taken _ _ (sym c.setting-4.ensures ∙ c.in_default-setting-3.is) in
    let no = not_taken _ _ (sym c.without_name.ensures ∙ ap (option_map (λ text. text.now)) c.in_default-without_name.is) in
    let level = level_in c.args.self.now in
    c.in_ok-add_pattern.ensures.added
    ∙ ap (λ key. with_key level key c.in_ok-count.pattern) c.in_ok-count.ensures.key
    ∙ ap (λ (p : Pattern). with_key level (key_of c.args.line.now) p) c.in_ok-count.ensures.pattern
    ∙ sym (with_other c.args.utf8 level c.args.line.now l r cl cr no)
