use Rattle.std.proofs.Common.{ℕ, List, Bor, IfOk, map, sym, ap, ◌∙◌, subst}
use Rattle.std.specs.Prelude.{Option, option_copied}
use Rattle.hyphenation_breaks.specs.Break.{Change}
use Rattle.any_dictionary.specs.declared.AnyDictionary.{AnyDictionary}
use Rattle.c_calls.specs.Numbered.{Numbered, AreOf, of_score, scores_by}
use Rattle.c_calls.proofs.Alike.{scores_alike}
use Rattle.c_calls.proofs.exceptions.scores_of.Goals as goal

pub returns-in_ok-scores-in-Extended : goal.returns-in_ok-scores-in-Extended
returns-in_ok-scores-in-Extended c =
    let found = ap (map (λ (x : ℕ × Option (Bor Change)). (x.0, option_copied x.1))) c.deref-in-Extended.ensures.value ∙ sym (scores_alike _) ∙ ap (map of_score) c.in_ok-scores-in-Extended.ensures.scores ∙ ap (λ (d : AnyDictionary). scores_by d c.args.word.now) (sym c.in-Extended.is) in
    subst (λ (l : List Numbered). IfOk c.collected-in-Extended.result (λ found. AreOf found l)) found c.collected-in-Extended.ensures
