use Rattle.hyphenation_score.proofs.ValuesInOrder.{length-values, length-winners, value_in_order, winner_in_order}
use Rattle.hyphenation_score.proofs.laws.places_are_in_order.Goals as goal

pub returns-clause-values_length : goal.returns-clause-values_length
returns-clause-values_length g c = length-values

pub returns-clause-values_at : goal.returns-clause-values_at
returns-clause-values_at g c = value_in_order

pub returns-clause-winners_length : goal.returns-clause-winners_length
returns-clause-winners_length g c = length-winners

pub returns-clause-winners_at : goal.returns-clause-winners_at
returns-clause-winners_at g c = winner_in_order
