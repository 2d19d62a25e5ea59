use Rattle.std.proofs.Common.{◌≡◌, ◌++◌, drop, map}
use Rattle.std.specs.String.{string_bytes}
use Rattle.text_results.specs.Removals.{rest_of}
use Rattle.text_results.proofs.removal.rests_of.Given as goal

abbrev pub invariant-loop-text : goal.invariant-loop-text
invariant-loop-text l =
    map string_bytes l.rests.items ++ map (rest_of l.source) (map string_bytes (drop l.text-index l.texts))
    ≡ map (rest_of l.source) (map string_bytes l.texts)
