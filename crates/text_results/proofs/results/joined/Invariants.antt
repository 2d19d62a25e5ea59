use Rattle.std.proofs.Common.{◌≡◌, ◌++◌, drop, map}
use Rattle.std.specs.List.{concat}
use Rattle.std.specs.String.{string_bytes}
use Rattle.text_results.proofs.results.joined.Given as goal

abbrev pub invariant-loop-one : goal.invariant-loop-one
invariant-loop-one l =
    string_bytes l.whole ++ concat (map string_bytes (drop l.one-index l.results)) ≡ concat (map string_bytes l.results)
