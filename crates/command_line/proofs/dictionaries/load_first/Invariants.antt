use Rattle.std.specs.Prelude.{None, map, take}
use Rattle.std.specs.String.{string_bytes}
use Rattle.command_line.specs.Dictionaries.{IsOfFirst}
use Rattle.command_line.proofs.dictionaries.load_first.Given as goal

abbrev pub invariant-loop-path : goal.invariant-loop-path
invariant-loop-path g l = IsOfFirst (g.F.NamedFiles.bytes l.files) (map string_bytes (take l.path-index l.paths)) None
