use Rattle.std.specs.Prelude.{◌≡◌, None, map, drop, option_copied}
use Rattle.convert_command.specs.Tags.{other_language_from}
use Rattle.convert_command.proofs.request.first_of_other_language.Given as goal

abbrev pub invariant-loop-index : goal.invariant-loop-index
invariant-loop-index l =
    other_language_from (option_copied l.known) l.index (map (λ path. path.now) (drop l.index l.paths))
    ≡ other_language_from None 0 (map (λ path. path.now) l.paths)
