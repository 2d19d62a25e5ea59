-- Two texts that are pushed one after the other.
use Rattle.std.proofs.Common.{◌≡◌, List, [], ◌∷◌, ◌++◌, ap, ◌∙◌, append_assoc}

pub two_pushed : {X : Type 0} (old one two : List X) (a b c d : X) → one ≡ old ++ a ∷ [] → two ≡ one ++ b ∷ [] → a ≡ c → b ≡ d
    → two ≡ old ++ c ∷ d ∷ []
two_pushed old one two a b c d first second e f =
    second ∙ ap (λ xs. xs ++ b ∷ []) first ∙ append_assoc old (a ∷ []) (b ∷ []) ∙ ap (λ x. old ++ x ∷ b ∷ []) e
    ∙ ap (λ x. old ++ c ∷ x ∷ []) f
