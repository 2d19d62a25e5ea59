use Rattle.std.proofs.Common.{◌∙◌, ap, sym, false}
use Rattle.std.specs.String.{string_bytes}
use Rattle.html_pieces.specs.Forms.{form_of}
use Rattle.html_pieces.specs.Elements.{page_element}
use Rattle.html_pieces.specs.Pieces.{pieces_of}
use Rattle.html_pieces.specs.Readings.{at_start}
use Rattle.std.proofs.lemmas.Result.{IfOk-weaker}
use Rattle.hyphenation_segments.specs.Laws.{with_marks}
use Rattle.hyphenation_html.specs.Languages.{languages_by}
use Rattle.hyphenation_html.specs.LeftAlone.{left_alone_elements}
use Rattle.hyphenation_html.proofs.MarkedPages.{Laws, page_marked, page_without}
use Rattle.hyphenation_html.proofs.KeptForms.{form_kept, languages_kept}
use Rattle.hyphenation_html.proofs.SecondPages.{page_done}
use Rattle.hyphenation_html.specs.Places.{places_of}
use Rattle.hyphenation_html.specs.Private.Marked.{marked_pieces}
use Rattle.hyphenation_html.proofs.MarksInText.{page_in_text}
use Rattle.hyphenation_html.proofs.page.hyphenate_html.Goals as goal

pub returns-clause-marked : goal.returns-clause-marked
returns-clause-marked c =
    let laws : Laws = record { marked = c.texts_are_marked.ensures; unmarked = c.marked_texts_join.ensures.none; join = c.marked_texts_join.ensures.join; none_left = c.marked_texts_have_none_left.ensures; white = c.white_space_has_no_breaks.ensures } in
    let marked = page_marked laws _ (form_of c.args.page.now) c.args.settings.now.class.now c.args.language.now c.args.settings.now.mark.now c.args.page.now c.all_fit.ensures (c.pieces_join.ensures (form_of c.args.page.now) c.args.page.now) (c.pieces_are_utf8.ensures (form_of c.args.page.now) c.args.page.now c.invariant.ensures) in
    IfOk-weaker c.page_with_marks.result _ _ (λ output e. e ∙ marked.is) c.page_with_marks.ensures

pub returns-clause-kept : goal.returns-clause-kept
returns-clause-kept c =
    let laws : Laws = record { marked = c.texts_are_marked.ensures; unmarked = c.marked_texts_join.ensures.none; join = c.marked_texts_join.ensures.join; none_left = c.marked_texts_have_none_left.ensures; white = c.white_space_has_no_breaks.ensures } in
    let marked = page_marked laws _ (form_of c.args.page.now) c.args.settings.now.class.now c.args.language.now c.args.settings.now.mark.now c.args.page.now c.all_fit.ensures (c.pieces_join.ensures (form_of c.args.page.now) c.args.page.now) (c.pieces_are_utf8.ensures (form_of c.args.page.now) c.args.page.now c.invariant.ensures) in
    IfOk-weaker c.page_with_marks.result _ _ (λ output e. (marked.parts.0, marked.parts.1, marked.parts.2 ∙ sym e)) c.page_with_marks.ensures

pub returns-clause-in_text : goal.returns-clause-in_text
returns-clause-in_text c =
    let laws : Laws = record { marked = c.texts_are_marked.ensures; unmarked = c.marked_texts_join.ensures.none; join = c.marked_texts_join.ensures.join; none_left = c.marked_texts_have_none_left.ensures; white = c.white_space_has_no_breaks.ensures } in
    page_in_text laws _ (form_of c.args.page.now) c.args.settings.now.class.now c.args.language.now c.args.page.now c.all_fit.ensures (c.pieces_are_utf8.ensures (form_of c.args.page.now) c.args.page.now c.invariant.ensures)

pub returns-clause-without : goal.returns-clause-without
returns-clause-without c = λ e.
    let laws : Laws = record { marked = c.texts_are_marked.ensures; unmarked = c.marked_texts_join.ensures.none; join = c.marked_texts_join.ensures.join; none_left = c.marked_texts_have_none_left.ensures; white = c.white_space_has_no_breaks.ensures } in
    let marked = page_marked laws _ (form_of c.args.page.now) c.args.settings.now.class.now c.args.language.now c.args.settings.now.mark.now c.args.page.now c.all_fit.ensures (c.pieces_join.ensures (form_of c.args.page.now) c.args.page.now) (c.pieces_are_utf8.ensures (form_of c.args.page.now) c.args.page.now c.invariant.ensures) in
    let none = page_without _ (form_of c.args.page.now) c.args.settings.now.class.now c.args.language.now c.args.page.now (ap (languages_by c.args.settings.now) e) in
    IfOk-weaker c.page_with_marks.result _ _ (λ output is. is ∙ marked.is ∙ ap (with_marks c.args.settings.now.mark.now c.args.page.now) none) c.page_with_marks.ensures

pub returns-clause-twice : goal.returns-clause-twice
returns-clause-twice c = λ e.
    let laws : Laws = record { marked = c.texts_are_marked.ensures; unmarked = c.marked_texts_join.ensures.none; join = c.marked_texts_join.ensures.join; none_left = c.marked_texts_have_none_left.ensures; white = c.white_space_has_no_breaks.ensures } in
    let settings = c.args.settings.now in
    let page = c.args.page.now in
    let language = c.args.language.now in
    let languages = languages_by settings c.args.languages.now in
    let pieces = pieces_of (form_of page) page in
    let utf8 = c.pieces_are_utf8.ensures (form_of page) page c.invariant.ensures in
    IfOk-weaker c.page_with_marks.result _ _
    (λ output is.
    let bytes = string_bytes output in
    let by_soft = is ∙ ap (λ m. marked_pieces languages m (form_of page) settings.class.now (page_element language) (at_start (form_of page) (left_alone_elements settings.class.now) pieces) false pieces) e in
    let done = page_done laws languages (form_of page) settings.class.now language page bytes c.all_fit.ensures utf8 (c.other_texts_are_cut_alike.ensures (form_of page) page) by_soft in
    let form = form_kept laws c.other_texts_leave_the_form.ensures languages settings.class.now language page bytes c.all_fit.ensures utf8 by_soft in (
      languages_kept laws languages settings.class.now language page bytes c.all_fit.ensures utf8 (c.other_texts_are_cut_alike.ensures (form_of page) page) form by_soft,
      ap (λ f. with_marks settings.mark.now bytes (places_of languages f settings.class.now language bytes)) form ∙ ap (with_marks settings.mark.now bytes) done,
    )) c.page_with_marks.ensures
