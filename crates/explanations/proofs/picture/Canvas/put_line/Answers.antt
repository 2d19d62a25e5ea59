use Rattle.std.proofs.Common.{◌≡◌, ◌∙◌, ℕ, [], Option, true, ap, sym, codes, arith, option_map}
use Rattle.std.specs.Option.{option_copied}
use Rattle.std.specs.String.{string_bytes}
use Rattle.std.proofs.lemmas.List.{at_drop_all}
use Rattle.explanations.specs.Columns.{place_in}
use Rattle.explanations.specs.Marks.{mark_at}
use Rattle.explanations.specs.Picture.{letters_put, line_put, marked, note_put, row_ended, value_put}
use Rattle.explanations.specs.Private.Drawing.{painted, scores_by}
use Rattle.explanations.specs.Rows.{row_of}
use Rattle.explanations.specs.declared.marks.Mark.{Mark}
use Rattle.explanations.proofs.picture.Canvas.put_line.Goals as goal

pub returns : goal.returns
unfolding line_put
returns g c =
    let places = c.args.places.now in
    let at : ℕ = c.loop-byte.at in
    let marks : ℕ → Option Mark = mark_at (string_bytes c.args.facts.now.folded) (scores_by g.C.Payload.change_of c.args.facts.now.winners.items) (option_map row_of (option_copied c.args.row)) in
    let value : value_put c.place_in.result c.mark_at-2.result (painted c.loop-byte.self) ≡ value_put (place_in places at) (marks at) (painted c.loop-byte.self) = cc in
    let done : value_put (place_in places at) (marks at) (painted c.loop-byte.self) ≡ letters_put places marks c.args.start true 0 0 c.args.letters.now (painted c.mark.new.self) =
    sym (at_drop_all (λ bytes. letters_put places marks at c.loop-byte.is_first c.loop-byte.first c.loop-byte.second bytes (painted c.loop-byte.self)) c.args.letters.now c.loop-byte.byte-index (omega arith)) ∙ c.loop-byte.invariant in
    c.in_ok-mark-2.ensures ∙ ap row_ended (c.in_ok-put_note.ensures ∙ ap (note_put c.args.column c.args.note.now) (c.in_ok-put_value-2.ensures ∙ value ∙ done
    ∙ ap (letters_put places marks c.args.start true 0 0 c.args.letters.now) (c.in_ok-mark.ensures
    ∙ ap (λ (column : ℕ). marked (codes "<tspan x='0' dy='24'>&#160;") [] column (painted c.args.self.now)) c.line_begin.ensures)))
