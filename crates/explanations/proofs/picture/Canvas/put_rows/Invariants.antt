use Rattle.std.proofs.Common.{◌≡◌, drop, map}
use Rattle.explanations.specs.Picture.{patterns_put}
use Rattle.explanations.specs.Private.Drawing.{facts_in, painted}
use Rattle.explanations.specs.Rows.{row_of}
use Rattle.explanations.proofs.picture.Canvas.put_rows.Given as goal

abbrev pub invariant-loop-row : goal.invariant-loop-row
invariant-loop-row g l =
    let facts = facts_in g.C.Payload.change_of g.B.Break.meaning l.known in
    patterns_put g.C.Payload.change_of l.places facts (map row_of (drop l.row-index l.known.facts.rows.items)) (painted l.self)
    ≡ patterns_put g.C.Payload.change_of l.places facts (map row_of l.known.facts.rows.items) (painted l.initial.self)
