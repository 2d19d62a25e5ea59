use Rattle.std.proofs.Common.{◌≡◌, ◌∙◌, true, Some, ap}
use Rattle.hyphenation_breaks.specs.Break.{is_boundary}
use Rattle.hyphenation_score.specs.Scoring.{Scored}
use Rattle.explanations.proofs.Scores.{score_known}
use Rattle.explanations.proofs.marks.score_value.Goals as goal

pub returns : goal.returns
returns g c =
    let boundary : is_boundary c.args.word.now c.args.place ≡ true = cc in
    ap (λ (s : Scored). Some s.value) c.score_of.ensures ∙ score_known g.C.Payload.change_of c.args.word.now c.args.winners.now c.args.place c.index-winners-place.result boundary c.if-place-eq0.false c.if-winners-place.false c.index-winners-place.is
