use Rattle.std.proofs.Common.{ℕ, List, [], ◌∷◌, subst}
use Rattle.explanations.specs.Svg.{IsDocument}
use Rattle.explanations.proofs.texts.styled.Goals as goal

pub returns-in_ok-text-in-Svg : goal.returns-in_ok-text-in-Svg
returns-in_ok-text-in-Svg g c =
    rw c.in-Svg.is (subst (λ (svg : List ℕ). IsDocument (svg ∷ []) c.in_ok-text-in-Svg.text.items) c.in_ok-drawing-in-Svg.ensures c.in_ok-text-in-Svg.ensures)
