-- The numbers of listed breaks and of scores.
use Rattle.std.proofs.Common.{◌≡◌, ℕ, List, Bor, map, refl, ap}
use Rattle.std.specs.Prelude.{Option, None, Some, option_copied}
use Rattle.std.specs.Option.{option_map}
use Rattle.std.proofs.lemmas.List.{map-id}
use Rattle.std.proofs.lemmas.Simd.{map-map}
use Rattle.hyphenation_breaks.specs.Break.{Change}
use Rattle.hyphenation_score.specs.Scoring.{scored_pair}
use Rattle.c_calls.specs.Numbered.{Numbered, of_score}

-- a listed break of an extended dictionary is a number with its change as it is
pub listed_alike : (listed : Option (List Numbered)) → option_map (map (λ (it : Numbered). (it.0, it.1))) listed ≡ listed
listed_alike None = refl
listed_alike (Some xs) = ap Some (map-id xs)

-- a score is a number with its change, whether it is borrowed or not
pub scores_alike : (xs : List (ℕ × Option (Bor Change))) → map of_score (map scored_pair xs) ≡ map (λ (x : ℕ × Option (Bor Change)). (x.0, option_copied x.1)) xs
scores_alike xs = map-map of_score scored_pair xs
