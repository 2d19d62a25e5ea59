-- The output of a run that fills lines.
use Rattle.std.specs.Prelude.{ℕ, List}
use Rattle.hyphenation_breaks.specs.Break.{plain_break}
use Rattle.hyphenation_breaks.specs.Dictionary.{Contents}
use Rattle.hyphenation_grammar.specs.Reading.{standard_contents}
use Rattle.hyphenation_hyphenator.specs.Opportunities.{no_change, rules_of, all_breaks_of}
use Rattle.hyphenation_writer.specs.Canonical.{with_line_feeds}
use Rattle.linefill.specs.Lines.{lines_by}

-- The lines of a text by a standard dictionary, each with a line feed after it.
abbrev pub filled_text : ℕ → Contents (Unit {0}) ℕ → List ℕ → List ℕ
filled_text columns dictionary text =
    with_line_feeds (lines_by (all_breaks_of (rules_of no_change plain_break dictionary)) text columns)

-- The output of a run: the text filled by the dictionary that bytes give.
abbrev pub fill_output : ℕ → List ℕ → List ℕ → List ℕ
fill_output columns bytes text = filled_text columns (standard_contents bytes) text
