use Rattle.std.specs.Prelude.{◌≡◌, ◌++◌, map, drop}
use Rattle.convert_command.specs.Arguments.{known_form}
use Rattle.convert_command.proofs.with_forms.Given as goal

abbrev pub invariant-loop-index : goal.invariant-loop-index
invariant-loop-index l =
    (map (λ file. file.bytes.now) l.with_forms.items ++ map (λ bytes. bytes.items) (drop l.index l.files)
    ≡ map (λ bytes. bytes.items) l.files)
    × (map (λ file. file.form) l.with_forms.items ++ map known_form (map (λ path. path.now) (drop l.index l.paths))
    ≡ map known_form (map (λ path. path.now) l.paths))
