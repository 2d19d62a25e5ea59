use Rattle.std.proofs.Common.{◌+◌, drop, arith}
use Rattle.std.specs.String.{string_bytes}
use Rattle.std.proofs.lemmas.List.{take_all, length-drop}
use Rattle.hyphenation_text.specs.Words.{breaks_under}
use Rattle.hyphenation_text.proofs.MarkdownSteps.{markdown_piece_written, markdown_written}
use Rattle.hyphenation_text.proofs.markdown.push_pieces.Goals as goal

pub loop-i-preserved : goal.loop-i-preserved
loop-i-preserved c =
    let rest = drop (c.loop-i.i + 1) c.args.pieces.now in
    markdown_piece_written (breaks_under c.args.settings.now c.args.dictionary.now) c.args.settings.now.mark.now c.loop-i.before _ (string_bytes c.loop-i.output.text) _ _ c.args.pieces.now _ c.loop-i.i c.piece_at-piece.result
    c.loop-i.invariant c.loop-i-test.true c.piece_at-piece.ensures (take_all _ rest (omega (arith, length-drop (c.loop-i.i + 1) c.args.pieces.now)))
    c.in_ok-push_piece.ensures c.last_touches-before.ensures

pub returns : goal.returns
returns c =
    markdown_written _ c.args.settings.now.mark.now c.loop-i.before c.args.pieces.now c.loop-i.i (string_bytes c.loop-i.output.text) _ c.loop-i.invariant c.loop-i-test.false
