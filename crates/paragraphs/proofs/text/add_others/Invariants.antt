use denote.Shadow.{shadow}
use denote.Text.{Utf8}
use Rattle.std.proofs.Common.{◌≡◌, ◌<◌, ◌++◌, false, List, length}
use Rattle.std.specs.List.{list_all}
use Rattle.paragraphs.specs.Private.FullLines.{IsOpen, Lead}
use Rattle.paragraphs.specs.Settings.{Setting, is_short}
use Rattle.paragraphs.specs.Styles.{style_of}
use Rattle.paragraphs.specs.Parts.{other_parts}
use Rattle.paragraphs.specs.Words.{words}
use Rattle.paragraphs.proofs.text.add_others.Given as goal

-- The words up to here are added.
abbrev pub invariant-loop-next : goal.invariant-loop-next
invariant-loop-next g l =
    let make = other_parts (g.H.Hyphenator.breaks_of l.dictionary) (style_of l.style) in
    record {
      columns : l.full.columns ≡ l.initial.full.columns;
      leads : (all rest : List Setting) → Lead all l.initial.full (make (words l.text) ++ rest) → Lead all l.full (make (words l.rest) ++ rest);
      is_open : IsOpen l.full;
      some : 0 < length l.full.stretches.items;
      long : list_all is_short (make (words l.rest)) ≡ false → list_all is_short (make (words l.text)) ≡ false;
      text : shadow (Utf8 l.rest);
    }

abbrev pub decreases-loop-next : goal.decreases-loop-next
decreases-loop-next g l = length l.rest
