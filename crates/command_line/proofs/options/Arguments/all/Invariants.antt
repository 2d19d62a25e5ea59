use Rattle.std.specs.Prelude.{◌≡◌, ◌++◌, map, drop}
use Rattle.command_line.specs.Options.{values_of}
use Rattle.command_line.specs.Reading.{as_given}
use Rattle.command_line.proofs.options.Arguments.all.Given as goal

-- The values so far, with those of options to come, are the values of all.
abbrev pub invariant-loop-given : goal.invariant-loop-given
invariant-loop-given l =
    map (λ value. value.now) l.values.items ++ values_of l.name (map as_given (drop l.given-index l.given-items))
    ≡ values_of l.name (map as_given l.given-items)
