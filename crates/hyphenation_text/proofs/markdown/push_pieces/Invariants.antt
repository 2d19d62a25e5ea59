use Rattle.std.proofs.Common.{◌≡◌, ◌++◌, map, drop, false}
use Rattle.std.specs.String.{string_bytes}
use Rattle.markdown_pieces.specs.Pieces.{as_piece}
use Rattle.hyphenation_text.specs.Words.{breaks_under}
use Rattle.hyphenation_text.specs.Private.MarkedMarkdown.{marked_markdown}
use Rattle.hyphenation_text.proofs.markdown.push_pieces.Given as goal

abbrev pub invariant-loop-i : goal.invariant-loop-i
invariant-loop-i l =
    string_bytes l.output.text ++ marked_markdown (breaks_under l.settings l.dictionary) l.settings.mark.now l.before (map as_piece (drop l.i l.pieces))
    ≡ string_bytes l.fn.output.text ++ marked_markdown (breaks_under l.settings l.dictionary) l.settings.mark.now false (map as_piece l.pieces)
