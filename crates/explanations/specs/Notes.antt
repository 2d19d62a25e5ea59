-- The words beside the rows of a picture: the changes of their values, and the fact that decides.
use Rattle.std.specs.Prelude.{ℕ, List, [], ◌++◌, codes, Option, Some, None, decimal, flat_map}
use Rattle.hyphenation_breaks.specs.Break.{Change, before_of, after_of}
use Rattle.hyphenation_breaks.specs.declared.entry.Entry.{Entry}
use Rattle.hyphenation_score.specs.Scoring.{Scored}
use Rattle.explanations.specs.Rows.{PatternRow}
use Rattle.explanations.specs.declared.facts.Decision.{Decision}
use Rattle.explanations.specs.declared.facts.Decision.TheVariants.{SoftHyphens, TooShort, Exception, Patterns}

-- The change that a value makes: its halves, and the numbers of bytes that it replaces before the place and after it. Nothing
-- without one.
abbrev pub change_note : ℕ → Option Change → List ℕ
change_note value None = []
change_note value (Some change) =
    codes "  " ++ (decimal value ++ (codes ": " ++ (before_of (Some change) ++ (codes "-" ++ (after_of (Some change)
    ++ (codes " for " ++ (decimal change.left ++ (codes "+" ++ (decimal change.right ++ codes " bytes")))))))))

-- The change that the value of an entry makes.
abbrev pub entry_note : {C : Type 0} → (C → Option Change) → Entry C → List ℕ
entry_note change_of entry = change_note entry.value (change_of entry.change)

-- The change that the value of a score makes.
abbrev pub score_note : Scored → List ℕ
score_note score = change_note score.value score.change

-- The note of the scores.
abbrev pub scores_note : List Scored → List ℕ
scores_note scores = codes "the greatest value of each place" ++ flat_map score_note scores

-- The note of a row: the changes of its entries. Without a pattern the row is that of the scores.
unfoldable pub row_note : {C : Type 0} → (C → Option Change) → List Scored → Option (PatternRow C) → List ℕ
row_note change_of scores None = scores_note scores
row_note change_of scores (Some row) = flat_map (entry_note change_of) row.entries

-- Two numbers, the minima, after a text.
abbrev pub with_minima : List ℕ → ℕ × ℕ → List ℕ
with_minima text minima = text ++ (decimal minima.0 ++ (codes " and " ++ decimal minima.1))

-- The fact that decides, in words.
abbrev pub decision_text : Decision → ℕ × ℕ → List ℕ
decision_text SoftHyphens minima = codes "its own soft hyphens, whatever patterns and minima say"
decision_text TooShort minima = with_minima (codes "too few characters for the minima ") minima
decision_text Exception minima = with_minima (codes "the breaks of an exception within the minima ") minima
decision_text Patterns minima = with_minima (codes "odd values within the minima ") minima
