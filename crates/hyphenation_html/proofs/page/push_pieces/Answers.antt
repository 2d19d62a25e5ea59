use Rattle.std.proofs.Common.{◌+◌, ◌&&◌, ap, map, ◌∙◌, drop, arith}
use Rattle.std.specs.String.{string_bytes}
use Rattle.std.specs.Option.{option_map}
use Rattle.std.proofs.lemmas.List.{take_all, length-drop}
use Rattle.html_pieces.specs.Pieces.{as_piece}
use Rattle.hyphenation_html.specs.Languages.{languages_by}
use Rattle.hyphenation_html.specs.Touching.{touched_after}
use Rattle.hyphenation_html.specs.Private.Marked.{is_text}
use Rattle.html_pieces.specs.Elements.{as_element}
use Rattle.html_pieces.specs.Readings.{as_reading, reading_after}
use Rattle.hyphenation_html.proofs.PageSteps.{piece_written, all_written, found_at}
use Rattle.hyphenation_html.proofs.page.push_pieces.Goals as goal

pub loop-i-preserved : goal.loop-i-preserved
loop-i-preserved c =
    let rest = drop (c.loop-i.i + 1) c.args.pieces.now in
    piece_written (languages_by c.args.settings.now c.args.languages.now) c.args.settings.now.mark.now c.args.form c.args.settings.now.class.now (as_element c.args.around) (option_map as_element c.parent_of_text-parent.result) (as_reading c.loop-i.reading) (as_reading c.advance.new.reading)
    c.loop-i.before _ c.text_touched_after-after.result (string_bytes c.loop-i.output.text) _ _ c.args.pieces.now c.loop-i.i c.piece_at-piece.result
    c.loop-i.invariant c.loop-i-test.true (found_at c.args.pieces.now c.loop-i.i c.piece_at-piece.result c.piece_at-piece.ensures)
    (c.text_touched_after-after.ensures ∙ ap (λ xs. is_text c.piece_at-piece.result.kind && touched_after (map as_piece xs)) (take_all _ rest (omega (arith, length-drop (c.loop-i.i + 1) c.args.pieces.now))))
    c.parent_of_text-parent.ensures
    c.in_ok-push_piece.ensures
    (c.in_ok-advance.ensures.advanced ∙ ap (λ selection. reading_after c.args.form selection (as_element c.args.around) (as_reading c.loop-i.reading) (as_piece c.piece_at-piece.result)) c.left_alone_by-left_alone.ensures)
    c.touched_before-before.ensures

pub returns : goal.returns
returns c =
    all_written _ c.args.settings.now.mark.now c.args.form c.args.settings.now.class.now (as_element c.args.around) (as_reading c.loop-i.reading) c.loop-i.before c.args.pieces.now c.loop-i.i (string_bytes c.loop-i.output.text) _ c.loop-i.invariant c.loop-i-test.false
