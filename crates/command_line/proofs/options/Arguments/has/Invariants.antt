use Rattle.std.specs.Prelude.{◌≡◌, map, drop}
use Rattle.command_line.specs.Options.{is_given}
use Rattle.command_line.specs.Reading.{as_given}
use Rattle.command_line.proofs.options.Arguments.has.Given as goal

-- The option is given among those to come, or among none.
abbrev pub invariant-loop-given : goal.invariant-loop-given
invariant-loop-given l =
    is_given l.name (map as_given (drop l.given-index l.given-items)) ≡ is_given l.name (map as_given l.given-items)
