use Rattle.std.proofs.Common.{drop, map}
use Rattle.std.specs.String.{string_bytes}
use Rattle.hyphenation_breaks.specs.Borrowed.{texts_now}
use Rattle.text_results.specs.Private.Runs.{ReplacedSoFar}
use Rattle.text_results.proofs.results.replace_each.Given as goal

abbrev pub invariant-loop-name : goal.invariant-loop-name
invariant-loop-name g l =
    ReplacedSoFar (g.S.ReplaceFiles.written l.fn.store) (g.S.ReplaceFiles.written l.store) (texts_now l.inputs) (map string_bytes l.results) (texts_now (drop l.name-index l.inputs)) (map string_bytes l.others)
