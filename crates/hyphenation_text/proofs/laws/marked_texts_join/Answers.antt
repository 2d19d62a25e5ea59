use Rattle.hyphenation_text.proofs.Marks.{joined, unmarked}
use Rattle.hyphenation_text.proofs.laws.marked_texts_join.Goals as goal

pub returns-clause-none : goal.returns-clause-none
returns-clause-none c = unmarked

pub returns-clause-join : goal.returns-clause-join
returns-clause-join c = λ mark a b places_of_a places_of_b marked_a marked_b x y. joined x y
