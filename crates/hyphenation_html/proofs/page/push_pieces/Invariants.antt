use Rattle.std.proofs.Common.{◌≡◌, ◌++◌, map, drop, false}
use Rattle.std.specs.String.{string_bytes}
use Rattle.html_pieces.specs.Pieces.{as_piece}
use Rattle.html_pieces.specs.Elements.{as_element}
use Rattle.html_pieces.specs.Readings.{as_reading, at_start}
use Rattle.hyphenation_html.specs.Languages.{languages_by}
use Rattle.hyphenation_html.specs.LeftAlone.{left_alone_elements}
use Rattle.hyphenation_html.specs.Private.Marked.{marked_pieces}
use Rattle.hyphenation_html.proofs.page.push_pieces.Given as goal

abbrev pub invariant-loop-i : goal.invariant-loop-i
invariant-loop-i l =
    string_bytes l.output.text ++ marked_pieces (languages_by l.settings l.languages) l.settings.mark.now l.form l.settings.class.now (as_element l.around) (as_reading l.reading) l.before (map as_piece (drop l.i l.pieces))
    ≡ string_bytes l.fn.output.text ++ marked_pieces (languages_by l.settings l.languages) l.settings.mark.now l.form l.settings.class.now (as_element l.around) (at_start l.form (left_alone_elements l.settings.class.now) (map as_piece l.pieces)) false (map as_piece l.pieces)
