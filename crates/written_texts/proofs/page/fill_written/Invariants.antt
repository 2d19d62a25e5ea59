use Rattle.std.proofs.Common.{take, map}
use Rattle.std.specs.String.{string_bytes}
use Rattle.paragraphs.specs.Styles.{style_of}
use Rattle.written_texts.specs.Private.Views.{block_of}
use Rattle.written_texts.proofs.PageRows.{AreAdded}
use Rattle.written_texts.proofs.page.fill_written.Given as goal

-- The blocks so far have their lines.
abbrev pub invariant-loop-block : goal.invariant-loop-block
invariant-loop-block g l =
    AreAdded l.aim (g.H.Hyphenator.breaks_of l.dictionary) (style_of l.style) l.columns (map block_of (take l.block-index l.block-items)) (map string_bytes l.page.items)
