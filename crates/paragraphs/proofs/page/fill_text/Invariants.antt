use Rattle.std.proofs.Common.{take, map}
use Rattle.std.specs.String.{string_bytes}
use Rattle.paragraphs.specs.Styles.{style_of}
use Rattle.paragraphs.proofs.PageRows.{AreAdded}
use Rattle.paragraphs.proofs.page.fill_text.Given as goal

-- The paragraphs so far have their lines, each after an empty one.
abbrev pub invariant-loop-paragraph : goal.invariant-loop-paragraph
invariant-loop-paragraph g l =
    AreAdded l.aim (g.H.Hyphenator.breaks_of l.dictionary) (style_of l.style) l.columns (map string_bytes (take l.paragraph-index l.others)) (map string_bytes l.initial.page.items) (map string_bytes l.page.items)
