-- A picture, scores, the pattern of a row and facts, as code holds them.
use Rattle.std.specs.Prelude.{List, map, Option, option_copied, option_map}
use Rattle.std.specs.Borrow.{Bor}
use Rattle.std.specs.String.{string_bytes}
use Rattle.hyphenation_breaks.specs.Break.{Break, Change}
use Rattle.hyphenation_breaks.specs.declared.entry.Entry.{Entry}
use Rattle.hyphenation_score.specs.Scoring.{Scored, score_of_winner}
use Rattle.explanations.specs.Facts.{Facts}
use Rattle.explanations.specs.Picture.{Painted}
use Rattle.explanations.specs.Rows.{PatternRow, row_of}
use Rattle.explanations.specs.declared.known.Known.{Known}
use Rattle.explanations.specs.declared.pattern_rows.Row.{Row}
use Rattle.explanations.specs.declared.picture.Canvas.{Canvas}

-- A picture as far as it is made.
abbrev pub painted : Canvas → Painted
painted canvas = record { svg = canvas.svg; text = canvas.text.items; column = canvas.column }

-- The scores of winners.
abbrev pub scores_by : {C : Type 0} → (C → Option Change) → List (Option (Bor (Entry C))) → List Scored
scores_by change_of winners = map (score_of_winner change_of) (map option_copied winners)

-- The pattern of a row, if it is that of one.
abbrev pub pattern_in : {C : Type 0} → Option (Bor (Row C)) → Option (PatternRow C)
pattern_in row = option_map row_of (option_copied row)

-- The facts that are known of a word.
abbrev pub facts_in : {C B : Type 0} → (C → Option Change) → (B → Break) → Known C B → Facts C
facts_in change_of break_of known = record {
  word = known.word.now;
  folded = string_bytes known.facts.folded;
  framed = string_bytes known.facts.framed;
  rows = map row_of known.facts.rows.items;
  scores = scores_by change_of known.facts.winners.items;
  minima = known.minima;
  bounds = known.facts.bounds;
  soft_hyphens = known.facts.soft_hyphens.items;
  listed = option_map (map break_of) (option_copied known.facts.listed);
  decision = known.facts.decision;
  places = known.places.items;
  hyphenated = string_bytes known.hyphenated;
}
