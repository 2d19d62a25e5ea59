use Rattle.std.proofs.Common.{ℕ, List, subst, sym, IfOk}
use Rattle.any_dictionary.specs.declared.AnyDictionary.{AnyDictionary}
use Rattle.hyphenation_breaks.specs.Break.{Break}
use Rattle.hyphenation_hyphenator.specs.Fitting.{fitted_breaks_of}
use Rattle.hyphenation_hyphenator.specs.Opportunities.{own_break, extended_rules}
use Rattle.hyphenation_score.specs.Scoring.{own_change}
use Rattle.explanations.specs.Svg.{drawn}
use Rattle.explanations.specs.Texts.{IsDrawn}
use Rattle.explanations.specs.Words.{IsDrawingOf}
use Rattle.explanations.proofs.texts.drawing.Goals as goal

pub returns-in_ok-word-in-Extended : goal.returns-in_ok-word-in-Extended
returns-in_ok-word-in-Extended c =
    let d = c.in-Extended.extended in
    subst (λ (dictionary : AnyDictionary). IfOk c.drawing_of-in-Extended.result (λ drawing. IsDrawingOf dictionary c.args.word.now (drawn drawing))) (sym c.in-Extended.is)
    (subst (λ (w : List ℕ). IfOk c.drawing_of-in-Extended.result (λ drawing. IsDrawn own_change own_break d w (fitted_breaks_of (extended_rules d) c.args.word.now) (drawn drawing))) c.in_ok-word-in-Extended.ensures.text
    (subst (λ (bs : List Break). IfOk c.drawing_of-in-Extended.result (λ drawing. IsDrawn own_change own_break d c.in_ok-word-in-Extended.word.text.now bs (drawn drawing))) c.in_ok-word-in-Extended.ensures.breaks c.drawing_of-in-Extended.ensures))
