use Rattle.std.proofs.Common.{◌∙◌, ap, arith, subst, sym, take, get_or}
use Rattle.std.specs.List.{position_or_len}
use Rattle.std.proofs.lemmas.List.{take_all}
use Rattle.libhyphen_files.specs.Private.Growing.{SpellsAlone, ends_spelling}
use Rattle.libhyphen_files.proofs.CutTexts.{position_or_len_none, position_or_len_some}
use Rattle.libhyphen_files.proofs.PlainLines.{spells_alone}
use Rattle.libhyphen_files.proofs.pattern.spelt_alone.Goals as goal

pub returns-in_default : goal.returns-in_default
returns-in_default c =
    let line = c.args.line.now in
    let over = position_or_len_none ends_spelling line (sym c.stop_position.ensures ∙ c.in_default.is) in
    subst (λ part. SpellsAlone line part) (take_all (position_or_len ends_spelling line) line over)
    (spells_alone line (omega (arith, over)) (λ inside is. omega (arith, over, inside)))

pub returns-then-line-end-ne47 : goal.returns-then-line-end-ne47
returns-then-line-end-ne47 c =
    let line = c.args.line.now in
    let at = position_or_len_some ends_spelling line c.in-Some.end (sym c.stop_position.ensures ∙ c.in-Some.is) in
    let end = at.0 in
    subst (λ n. SpellsAlone line (take n line)) end
    (spells_alone line (omega (arith, end, c.if-end-line.true))
    (λ inside is. c.if-line-end-ne47.true (ap (λ k. get_or line k 0) (sym end) ∙ is)))
