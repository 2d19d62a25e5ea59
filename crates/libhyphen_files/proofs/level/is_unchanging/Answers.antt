use Rattle.std.proofs.Common.{◌∙◌, ap, sym, nat_eq}
use Rattle.std.specs.Cmp.Lexicographic.{pointwise}
use Rattle.libhyphen_files.proofs.SharedPatterns.{unchanging_is}
use Rattle.libhyphen_files.proofs.level.is_unchanging.Goals as goal

pub returns : goal.returns
returns c = λ same.
    sym c.pattern.view_is
    ∙ unchanging_is c.pattern.inside.digits.items c.pattern.inside.change c.args.digits.now (sym c.is_some.ensures ∙ c.if-is_some.false)
    (ap (λ text. pointwise nat_eq text c.args.digits.now) (sym c.as_slice.ensures.value) ∙ sym c.eq.ensures ∙ same)
