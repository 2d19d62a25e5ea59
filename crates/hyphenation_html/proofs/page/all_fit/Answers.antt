use Rattle.std.proofs.Common.{◌∷◌, add-one, arith, drop, subst, sym, ◌∙◌}
use Rattle.std.proofs.Math.Seq.{drop-cons}
use Rattle.hyphenation_html.specs.Languages.{languages_by}
use Rattle.hyphenation_html.specs.Private.Fit.{AllFit}
use Rattle.hyphenation_html.proofs.page.all_fit.Goals as goal

pub loop-language-preserved : goal.loop-language-preserved
loop-language-preserved c =
    let i = c.loop-language.language-index in
    let languages = c.args.languages.now in
    let here = drop-cons languages i c.language-item.result (omega arith) ∙ (λ k. sym c.language-item.is k ∷ drop (sym (add-one i) k) languages) in
    λ rest. c.loop-language.invariant (subst (λ ls. AllFit (languages_by c.args.settings.now ls)) (sym here) (c.limited_breaks_fit.ensures, rest))
