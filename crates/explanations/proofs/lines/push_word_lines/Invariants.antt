use Rattle.std.proofs.Common.{◌≡◌, ◌++◌, drop, map, flat_map}
use Rattle.std.specs.String.{string_bytes}
use Rattle.explanations.specs.Lines.{pattern_line}
use Rattle.explanations.specs.Rows.{row_of}
use Rattle.explanations.proofs.lines.push_word_lines.Given as goal

abbrev pub invariant-loop-row : goal.invariant-loop-row
invariant-loop-row g l =
    let line = pattern_line g.C.Payload.change_of (string_bytes l.known.facts.framed) in
    l.text.items ++ flat_map line (map row_of (drop l.row-index l.known.facts.rows.items)) ≡ l.initial.text.items ++ flat_map line (map row_of l.known.facts.rows.items)
