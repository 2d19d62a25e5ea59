use Rattle.std.proofs.Common.{length, ◌∷◌, sym, ap, ◌∙◌}
use Rattle.std.proofs.lemmas.Str.{IsUtf8-had}
use Rattle.unicode_segmentation.specs.Word.{is_word_break}
use Rattle.unicode_segmentation.specs.Segments.{segments_between, with_offsets}
use Rattle.unicode_segmentation.proofs.SegmentsLemmas.{segments_between-same, with_offsets-IsFirstEnd}
use Rattle.word_pieces.specs.Pieces.{pieces_left, pieces_offset}
use Rattle.word_pieces.proofs.pieces.WordPieces.next_indexed.Goals as goal

pub returns-then-start-self : goal.returns-then-start-self
unfolding pieces_left pieces_offset with_offsets
returns-then-start-self c =
    let s = c.args.self.now in
    let none = ap (with_offsets s.front) (ap (segments_between is_word_break s.text.now s.front) (sym c.if-start-self.true) ∙ segments_between-same _ _ (IsUtf8-had _ s.utf8) s.front) in
    (none, none)

pub returns : goal.returns
unfolding pieces_left pieces_offset
returns c =
    let s = c.args.self.now in
    let end = c.end_after-end.result.0 in
    with_offsets-IsFirstEnd _ _ (IsUtf8-had _ s.utf8) s.front (length s.text.now) end c.end_after-end.ensures.end
    ∙ ap (λ piece. (s.front, piece) ∷ with_offsets end (segments_between is_word_break s.text.now end (length s.text.now))) (sym c.range.ensures.value)
