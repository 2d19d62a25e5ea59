-- Laws of breaks that fit, and of exceptions that are added and removed.
use Rattle.std.specs.Prelude.{◌≡◌, ℕ, ◌↔◌, ◌&&◌, if◌then◌else◌, List, [], ◌∷◌, ◌++◌, map, None, IsTrue}
use Rattle.std.specs.FinMap as finite
use Rattle.hyphenation_breaks.specs.Break.{Break, plain_break, ascend_on}
use Rattle.hyphenation_breaks.specs.Dictionary.{TextMap}
use Rattle.hyphenation_segments.specs.Fits.{Fits}
use Rattle.hyphenation_hyphenator.specs.Fitting.{fitted_breaks, range_keeps_lengths, is_after}

-- Plain breaks fit a text exactly where their places ascend strictly on its character boundaries.
abbrev pub FitWhereAscending : Type 0
FitWhereAscending = (text places : List ℕ) → Fits text (map plain_break places) ↔ IsTrue (ascend_on text 0 places)

-- Adding a word that is no exception and removing it again leaves the exceptions as they were.
abbrev pub RemovalUndoes : Type 0 → Type 0
RemovalUndoes B =
    (exceptions : TextMap (List B)) (word : List ℕ) (listed : List B) → finite.get exceptions word ≡ None
    → finite.remove (finite.insert exceptions word listed) word ≡ exceptions

-- One more break after others is kept exactly where its own range may be kept and begins after each range that is kept.
-- Which of the others are kept does not depend on it.
abbrev pub KeepsOneMore : Type 0
KeepsOneMore = (word : List ℕ) (breaks : List Break) (b : Break) →
    fitted_breaks word (breaks ++ b ∷ [])
    ≡ (if range_keeps_lengths word b && is_after (fitted_breaks word breaks) b then fitted_breaks word breaks ++ b ∷ []
    else fitted_breaks word breaks)
