use denote.Shadow.{shadow}
use denote.Text.{Utf8}
use Rattle.std.proofs.Common.{◌≡◌, ◌++◌, length}
use Rattle.std.specs.List.{flat_map}
use Rattle.paragraphs.specs.Private.PartSettings.{settings_of}
use Rattle.paragraphs.specs.Styles.{style_of}
use Rattle.paragraphs.specs.Parts.{word_parts}
use Rattle.paragraphs.specs.Words.{words}
use Rattle.paragraphs.proofs.text.push_others.Given as goal

-- The parts that are made, with those of the words to come, are those of all words.
abbrev pub invariant-loop-word : goal.invariant-loop-word
invariant-loop-word g l =
    let make = word_parts (g.H.Hyphenator.breaks_of l.dictionary) (style_of l.style) (style_of l.style).indent in
    record {
      made : settings_of l.parts.items ++ flat_map make (words l.rest) ≡ settings_of l.initial.parts.items ++ flat_map make (words l.text);
      text : shadow (Utf8 l.rest);
    }

abbrev pub decreases-loop-word : goal.decreases-loop-word
decreases-loop-word g l = length l.rest
