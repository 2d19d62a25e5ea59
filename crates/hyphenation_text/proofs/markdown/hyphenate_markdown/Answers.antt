use Rattle.std.proofs.Common.{◌∙◌, ap, sym, false}
use Rattle.std.specs.String.{string_bytes}
use Rattle.std.proofs.lemmas.Result.{IfOk-weaker}
use Rattle.hyphenation_segments.specs.Laws.{with_marks}
use Rattle.markdown_pieces.specs.Pieces.{pieces_of}
use Rattle.hyphenation_text.specs.Words.{breaks_under}
use Rattle.hyphenation_text.specs.Private.MarkedMarkdown.{marked_markdown}
use Rattle.hyphenation_text.proofs.MarkedTexts.{Laws}
use Rattle.hyphenation_text.proofs.MarkedMarkdown.{markdown_marked, markdown_done}
use Rattle.hyphenation_text.proofs.markdown.hyphenate_markdown.Goals as goal

pub returns-clause-marked : goal.returns-clause-marked
returns-clause-marked c =
    let laws : Laws = record { words = c.words_are_slices.ensures.slices; words_join = c.words_are_slices.ensures.join; join = c.segments_join.ensures; joins = c.marked_segments_join.ensures; fit = c.plain_breaks_fit_where_ascending.ensures } in
    let text = c.args.text.now in
    let marked = markdown_marked laws (breaks_under c.args.settings.now c.args.dictionary.now) c.args.settings.now.mark.now text c.limited_breaks_fit.ensures (c.pieces_join.ensures text) (c.pieces_are_utf8.ensures text c.utf8.text) in
    IfOk-weaker c.markdown_with_marks.result _ _ (λ output e. e ∙ marked.is) c.markdown_with_marks.ensures

pub returns-clause-kept : goal.returns-clause-kept
returns-clause-kept c =
    let laws : Laws = record { words = c.words_are_slices.ensures.slices; words_join = c.words_are_slices.ensures.join; join = c.segments_join.ensures; joins = c.marked_segments_join.ensures; fit = c.plain_breaks_fit_where_ascending.ensures } in
    let text = c.args.text.now in
    let marked = markdown_marked laws (breaks_under c.args.settings.now c.args.dictionary.now) c.args.settings.now.mark.now text c.limited_breaks_fit.ensures (c.pieces_join.ensures text) (c.pieces_are_utf8.ensures text c.utf8.text) in
    IfOk-weaker c.markdown_with_marks.result _ _ (λ output e. (marked.parts.0, marked.parts.1, marked.parts.2 ∙ sym e)) c.markdown_with_marks.ensures

pub returns-clause-twice : goal.returns-clause-twice
returns-clause-twice c = λ e.
    let laws : Laws = record { words = c.words_are_slices.ensures.slices; words_join = c.words_are_slices.ensures.join; join = c.segments_join.ensures; joins = c.marked_segments_join.ensures; fit = c.plain_breaks_fit_where_ascending.ensures } in
    let text = c.args.text.now in
    let mark = c.args.settings.now.mark.now in
    let breaks = breaks_under c.args.settings.now c.args.dictionary.now in
    IfOk-weaker c.markdown_with_marks.result _ _
    (λ output is.
    let none = markdown_done laws breaks text (string_bytes output) c.limited_breaks_fit.ensures (c.pieces_are_utf8.ensures text c.utf8.text) c.other_texts_are_cut_alike.ensures (is ∙ ap (λ m. marked_markdown breaks m false (pieces_of text)) e) in
    ap (with_marks mark (string_bytes output)) none) c.markdown_with_marks.ensures
