-- Which fact decides where a word breaks.
-- Source of soft hyphens, minima and exceptions, in this order: the documentation of the Rust crate `hyphenation`.
use Rattle.std.specs.Prelude.{ℕ, List, [], ◌∷◌, Option, Some, None}
use Rattle.hyphenation_hyphenator.specs.Folding.{fold_case}
use Rattle.hyphenation_hyphenator.specs.Opportunities.{Rules, boundaries_by}
use Rattle.hyphenation_hyphenator.specs.SoftHyphens.{soft_hyphens}
use Rattle.explanations.specs.declared.facts.Decision.{Decision}
use Rattle.explanations.specs.declared.facts.Decision.TheVariants.{SoftHyphens, TooShort, Exception, Patterns}

-- The fact that decides: soft hyphens, no boundaries, or listed breaks, the first of these in this order, and else the
-- patterns.
abbrev pub decision_from : {B : Type 0} → List ℕ → Option (ℕ × ℕ) → Option (List B) → Decision
decision_from (place ∷ places) bounds listed = SoftHyphens
decision_from [] None listed = TooShort
decision_from [] (Some bounds) (Some listed) = Exception
decision_from [] (Some bounds) None = Patterns

-- The fact that decides where a word as written breaks, by the rules of a dictionary.
abbrev pub decision_by : Rules → List ℕ → Decision
decision_by rules word =
    decision_from (soft_hyphens word) (boundaries_by rules (fold_case word)) (rules.listed (fold_case word))
