use Rattle.std.proofs.Common.{◌≡◌, ℕ, List, sym, ◌∙◌, inl, inr}
use Rattle.hyphenation_breaks.specs.Dictionary.{Patterns}
use Rattle.hyphenation_score.specs.Scoring.{frame, winner_at}
use Rattle.hyphenation_score.specs.Winners.{BestSoFar, IsPair, IsBestOf}
use Rattle.hyphenation_score.proofs.WinnerPlaces.{best_wins, none_wins}
use Rattle.hyphenation_score.proofs.laws.best_of_all_wins.Goals as goal

all_win : {C : Type 0} (keys : Patterns C) (word : List ℕ) (p : ℕ) (now : BestSoFar C) → IsBestOf keys (frame word) p (IsPair (frame word)) now → now.0 ≡ winner_at keys word p
all_win keys word p now holds = elim holds [
  | inl none ↦ none.0 ∙ sym (none_wins keys word p none.2)
  | inr some ↦ some.2 ∙ sym (best_wins keys word p now.1 some.1 some.0 some.3)
]

pub returns : goal.returns
returns g c = all_win
