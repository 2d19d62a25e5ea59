use Rattle.std.proofs.Common.{◌≡◌, ◌++◌, map, take}
use Rattle.std.specs.List.{flat_map}
use Rattle.std.specs.String.{string_bytes}
use Rattle.paragraphs.specs.Paragraphs.{ended}
use Rattle.lines_command.proofs.run.push_lines.Given as goal

-- The lines so far are on the page.
abbrev pub invariant-loop-line : goal.invariant-loop-line
invariant-loop-line l = string_bytes l.page ≡ string_bytes l.fn.page ++ flat_map ended (map string_bytes (take l.line-index l.lines))
