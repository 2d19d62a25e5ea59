-- All facts about a word's breaks.
use Rattle.std.specs.Prelude.{◌≡◌, ℕ, List, codes, map, Option, option_map}
use Rattle.std.specs.FinMap as finite
use Rattle.hyphenation_breaks.specs.Break.{Break, Change}
use Rattle.hyphenation_breaks.specs.Dictionary.{Contents, entries_of_keys}
use Rattle.hyphenation_hyphenator.specs.Boundaries.{boundaries}
use Rattle.hyphenation_hyphenator.specs.Folding.{fold_case}
use Rattle.hyphenation_hyphenator.specs.Opportunities.{rules_of}
use Rattle.hyphenation_hyphenator.specs.SoftHyphens.{soft_hyphens}
use Rattle.hyphenation_score.specs.Scoring.{Scored, frame, scores}
use Rattle.hyphenation_segments.specs.Segments.{marked_word}
use Rattle.explanations.specs.Decisions.{decision_by}
use Rattle.explanations.specs.Rows.{PatternRow, AreAllOccurrences}
use Rattle.explanations.specs.declared.facts.Decision.{Decision}

-- The facts: the word, its folding, this between two dots, the rows of the patterns that occur there, and the score of each
-- place. Then the minima and the bounds, soft hyphens, listed breaks, the fact that decides, the places of the breaks of the word
-- as written, and the word with a hyphen at each of them.
pub record Facts (C : Type 0) : Type 0 where
  pub word : List ℕ
  pub folded : List ℕ
  pub framed : List ℕ
  pub rows : List (PatternRow C)
  pub scores : List Scored
  pub minima : ℕ × ℕ
  pub bounds : Option (ℕ × ℕ)
  pub soft_hyphens : List ℕ
  pub listed : Option (List Break)
  pub decision : Decision
  pub places : List ℕ
  pub hyphenated : List ℕ

-- The place of a break.
abbrev pub place_of : Break → ℕ
place_of b = b.place

-- The facts are those of a word by the contents of a dictionary, by which the word has these breaks.
pub record AreFacts {C B : Type 0} (change_of : C → Option Change) (break_of : B → Break) (contents : Contents C B)
    (word : List ℕ) (breaks : List Break) (facts : Facts C) : Type 0 where
  pub word_is : facts.word ≡ word
  pub folded_is : facts.folded ≡ fold_case word
  pub framed_is : facts.framed ≡ frame (fold_case word)
  pub rows_are : AreAllOccurrences (entries_of_keys contents) (frame (fold_case word)) facts.rows
  pub scores_are : facts.scores ≡ scores change_of (entries_of_keys contents) (fold_case word)
  pub minima_are : facts.minima ≡ (contents.left, contents.right)
  pub bounds_are : facts.bounds ≡ boundaries contents.left contents.right (fold_case word)
  pub soft_hyphens_are : facts.soft_hyphens ≡ soft_hyphens word
  pub listed_is : facts.listed ≡ option_map (map break_of) (finite.get contents.exceptions (fold_case word))
  pub decision_is : facts.decision ≡ decision_by (rules_of change_of break_of contents) word
  pub places_are : facts.places ≡ map place_of breaks
  pub hyphenated_is : facts.hyphenated ≡ marked_word (codes "-") word breaks
