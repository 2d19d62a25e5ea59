use Rattle.std.specs.Prelude.{◌≡◌, map, drop}
use Rattle.convert_command.specs.Rejections.{bad_ending_from}
use Rattle.convert_command.proofs.request.first_bad_ending.Given as goal

abbrev pub invariant-loop-index : goal.invariant-loop-index
invariant-loop-index l =
    bad_ending_from l.index (map (λ path. path.now) (drop l.index l.paths))
    ≡ bad_ending_from 0 (map (λ path. path.now) l.paths)
