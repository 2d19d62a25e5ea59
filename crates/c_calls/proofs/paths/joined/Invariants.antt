use Rattle.std.proofs.Common.{◌≡◌, map, take}
use Rattle.std.specs.String.{string_bytes}
use Rattle.c_calls.specs.Paths.{ended_paths}
use Rattle.c_calls.proofs.paths.joined.Given as goal

abbrev pub invariant-loop-path : goal.invariant-loop-path
invariant-loop-path l = l.text.items ≡ ended_paths (map string_bytes (take l.path-index l.paths))
