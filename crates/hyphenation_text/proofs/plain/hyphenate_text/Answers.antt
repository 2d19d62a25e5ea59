use Rattle.std.proofs.Common.{◌∙◌, ap, sym, false}
use Rattle.std.specs.String.{string_bytes}
use Rattle.std.proofs.lemmas.Result.{IfOk-weaker}
use Rattle.hyphenation_segments.specs.Laws.{with_marks}
use Rattle.hyphenation_text.specs.Places.{text_places}
use Rattle.hyphenation_text.specs.Texts.{hyphenated_by}
use Rattle.hyphenation_text.specs.Words.{breaks_under}
use Rattle.hyphenation_text.proofs.plain.hyphenate_text.Goals as goal

pub returns-clause-kept : goal.returns-clause-kept
returns-clause-kept c =
    let marked = c.texts_are_marked.ensures (breaks_under c.args.settings.now c.args.dictionary.now) c.args.settings.now.mark.now false false c.args.text.now c.limited_breaks_fit.ensures c.utf8.text in
    IfOk-weaker c.text_with_marks.result _ _ (λ output e. (marked.parts.0, marked.parts.1, marked.parts.2 ∙ sym e)) c.text_with_marks.ensures

pub returns-clause-twice : goal.returns-clause-twice
returns-clause-twice c = λ e.
    let breaks = breaks_under c.args.settings.now c.args.dictionary.now in
    let mark = c.args.settings.now.mark.now in
    let none = c.a_second_run_finds_no_break.ensures c.args.text.now false false c.utf8.text in
    IfOk-weaker c.text_with_marks.result _ _
    (λ output is.
    let by_soft = is ∙ ap (λ m. hyphenated_by breaks m c.args.text.now) e in
    ap (λ xs. with_marks mark (string_bytes output) (text_places breaks false false xs)) by_soft ∙ ap (with_marks mark (string_bytes output)) none) c.text_with_marks.ensures
