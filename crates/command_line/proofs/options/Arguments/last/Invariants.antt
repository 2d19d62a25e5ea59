use Rattle.std.specs.Prelude.{◌≡◌, map, drop, option_copied}
use Rattle.std.specs.List.{last_or}
use Rattle.command_line.specs.Options.{last_value, values_of}
use Rattle.command_line.specs.Reading.{as_given}
use Rattle.command_line.proofs.options.Arguments.last.Given as goal

-- The last value so far, or that of an option to come, is the last of all.
abbrev pub invariant-loop-given : goal.invariant-loop-given
invariant-loop-given l =
    last_or (option_copied l.last) (values_of l.name (map as_given (drop l.given-index l.given-items)))
    ≡ last_value l.name (map as_given l.given-items)
