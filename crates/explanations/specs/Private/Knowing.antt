-- Facts that are known of a word, in code.
use Rattle.std.specs.Prelude.{◌≡◌, ℕ, List, map, Option, option_copied}
use Rattle.std.specs.FinMap as finite
use Rattle.std.specs.String.{string_bytes}
use Rattle.hyphenation_breaks.specs.Break.{Break, Change}
use Rattle.hyphenation_breaks.specs.Dictionary.{Contents, entries_of_keys}
use Rattle.hyphenation_hyphenator.specs.Boundaries.{boundaries}
use Rattle.hyphenation_hyphenator.specs.Folding.{fold_case}
use Rattle.hyphenation_hyphenator.specs.Opportunities.{rules_of}
use Rattle.hyphenation_hyphenator.specs.SoftHyphens.{soft_hyphens}
use Rattle.hyphenation_score.specs.Scoring.{frame, winners}
use Rattle.explanations.specs.Decisions.{decision_by}
use Rattle.explanations.specs.Facts.{AreFacts}
use Rattle.explanations.specs.Private.Drawing.{facts_in}
use Rattle.explanations.specs.Rows.{row_of, AreAllOccurrences}
use Rattle.explanations.specs.declared.facts.Explanation.{Explanation}
use Rattle.explanations.specs.declared.known.Known.{Known}

-- The facts in code are those of a word by the contents of a dictionary, its breaks apart.
pub record AreFactsOf {C B : Type 0} (change_of : C → Option Change) (break_of : B → Break) (contents : Contents C B)
    (word : List ℕ) (e : Explanation C B) : Type 0 where
  pub decision : e.decision ≡ decision_by (rules_of change_of break_of contents) word
  pub soft_hyphens : e.soft_hyphens.items ≡ soft_hyphens word
  pub folded : string_bytes e.folded ≡ fold_case word
  pub framed : string_bytes e.framed ≡ frame (fold_case word)
  pub bounds : e.bounds ≡ boundaries contents.left contents.right (fold_case word)
  pub listed : option_copied e.listed ≡ finite.get contents.exceptions (fold_case word)
  pub rows : AreAllOccurrences (entries_of_keys contents) (frame (fold_case word)) (map row_of e.rows.items)
  pub winners : map option_copied e.winners.items ≡ winners (entries_of_keys contents) (fold_case word)

-- The facts that are known are those of a word by the contents of a dictionary, by which the word has these breaks.
abbrev pub IsKnown : {C B : Type 0} → (C → Option Change) → (B → Break) → Contents C B → List ℕ → List Break → Known C B → Type 0
IsKnown change_of break_of contents word breaks known = AreFacts change_of break_of contents word breaks (facts_in change_of break_of known)
