use Rattle.std.proofs.Common.{rules, ◌∙◌, ap, map, refl, option_map}
use Rattle.hyphenation_score.specs.Scoring.{score_of_winner}
use Rattle.explanations.specs.Facts.{place_of}
use Rattle.explanations.proofs.known.known_of.Goals as goal

pub returns : goal.returns
returns g c =
    let f = c.in_ok-facts.ensures in
    record {
      word_is = refl;
      folded_is = f.folded;
      framed_is = f.framed;
      rows_are = f.rows;
      scores_are = ap (map (score_of_winner g.C.Payload.change_of)) f.winners;
      minima_are = c.minima-minima.ensures;
      bounds_are = f.bounds;
      soft_hyphens_are = f.soft_hyphens;
      listed_is = ap (option_map (map g.B.Break.meaning)) f.listed;
      decision_is = f.decision;
      places_are = c.in_ok-places.ensures ∙ ap (λ bs. map place_of (map g.O.Break.meaning bs)) c.deref.ensures.value;
      hyphenated_is = search rules;
    }
