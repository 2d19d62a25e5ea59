use Rattle.std.proofs.Common.{◌≡◌, ◌∙◌, ◌+◌, ℕ, List, false, ap, chars, codes}
use Rattle.std.specs.String.{string_bytes}
use Rattle.unicode_width.specs.Width.{str_width}
use Rattle.explanations.specs.Columns.{place_in, line_begin, note_column}
use Rattle.explanations.specs.Notes.{decision_text}
use Rattle.explanations.specs.Picture.{Painted, breaks_put, last_ended, note_put, put, row_begun}
use Rattle.explanations.specs.Private.Drawing.{painted}
use Rattle.explanations.specs.declared.layout.Place.{Place}
use Rattle.explanations.proofs.picture.Canvas.put_breaks.Goals as goal

pub returns : goal.returns
unfolding breaks_put
returns g c =
    let places = c.args.places.now in
    let known = c.args.known.now in
    let start : Painted = painted c.args.self.now in
    let text : List ℕ = string_bytes known.hyphenated in
    let note : List ℕ = decision_text known.facts.decision known.minima in
    let width : ℕ = str_width false (chars text) in
    let letter : ℕ = (place_in places 1).letter in
    let is_width : c.width-width.result ≡ width = c.width-width.ensures.value ∙ ap (λ (t : List ℕ). str_width false (chars t)) c.as_str.ensures.value in
    let is_letter : c.place_in-letter.result.letter ≡ letter = ap (λ (p : Place). p.letter) c.place_in-letter.ensures in
    let is_end : c.in_ok-end.end ≡ letter + width =
    c.in_ok-end.ensures ∙ ap (λ (n : ℕ). n + c.width-width.result) is_letter ∙ ap (λ (n : ℕ). letter + n) is_width in
    let is_column : c.in_ok-column.column ≡ note_column places width = c.in_ok-column.ensures ∙ ap (λ (n : ℕ). note_column places n) is_width in
    let is_note : c.as_bytes-2.result.now ≡ note = c.as_bytes-2.ensures.value ∙ c.in_ok-note.ensures in
    let word_at = λ (at : ℕ) (bytes : List ℕ) (end : ℕ) (p : Painted). put (codes " class='word'") at bytes end p in
    let begun : painted c.mark.new.self ≡ row_begun (line_begin places 1) start = c.in_ok-mark.ensures ∙ ap (λ (n : ℕ). row_begun n start) c.line_begin.ensures in
    let word : painted c.put.new.self ≡ word_at letter text (letter + width) (row_begun (line_begin places 1) start) =
    c.in_ok-put.ensures ∙ ap (λ (n : ℕ). word_at n c.as_bytes.result.now c.in_ok-end.end (painted c.mark.new.self)) is_letter
    ∙ ap (λ (t : List ℕ). word_at letter t c.in_ok-end.end (painted c.mark.new.self)) c.as_bytes.ensures.value
    ∙ ap (λ (n : ℕ). word_at letter text n (painted c.mark.new.self)) is_end ∙ ap (word_at letter text (letter + width)) begun in
    c.in_ok-mark-2.ensures ∙ ap last_ended (c.in_ok-put_note.ensures
    ∙ ap (λ (n : ℕ). note_put n c.as_bytes-2.result.now (painted c.put.new.self)) is_column
    ∙ ap (λ (t : List ℕ). note_put (note_column places width) t (painted c.put.new.self)) is_note
    ∙ ap (note_put (note_column places width) note) word)
