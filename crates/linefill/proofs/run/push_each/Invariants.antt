use Rattle.std.proofs.Common.{◌≡◌, ◌++◌, map, take}
use Rattle.std.specs.String.{string_bytes}
use Rattle.hyphenation_writer.specs.Canonical.{with_line_feeds}
use Rattle.linefill.proofs.run.push_each.Given as goal

abbrev pub invariant-loop-line : goal.invariant-loop-line
invariant-loop-line l = string_bytes l.page ≡ string_bytes l.initial.page ++ with_line_feeds (map string_bytes (take l.line-index l.lines))
