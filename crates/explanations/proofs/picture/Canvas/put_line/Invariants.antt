use Rattle.std.proofs.Common.{◌≡◌, true, drop, option_map}
use Rattle.std.specs.Option.{option_copied}
use Rattle.std.specs.String.{string_bytes}
use Rattle.explanations.specs.Marks.{mark_at}
use Rattle.explanations.specs.Picture.{letters_put}
use Rattle.explanations.specs.Private.Drawing.{painted, scores_by}
use Rattle.explanations.specs.Rows.{row_of}
use Rattle.explanations.proofs.picture.Canvas.put_line.Given as goal

abbrev pub invariant-loop-byte : goal.invariant-loop-byte
invariant-loop-byte g l =
    let marks = mark_at (string_bytes l.facts.folded) (scores_by g.C.Payload.change_of l.facts.winners.items) (option_map row_of (option_copied l.row)) in
    letters_put l.places marks l.at l.is_first l.first l.second (drop l.byte-index l.letters) (painted l.self)
    ≡ letters_put l.places marks l.start true 0 0 l.letters (painted l.initial.self)
