use Rattle.std.specs.Prelude.{◌≡◌, map, drop}
use Rattle.command_line.specs.Options.{read_after, read_arguments}
use Rattle.command_line.specs.Private.Readers.{as_next}
use Rattle.command_line.specs.Reading.{as_read}
use Rattle.command_line.specs.Usage.{options_in}
use Rattle.command_line.proofs.options.read.Given as goal

-- The arguments to come, after those that are read, are read as all of them.
abbrev pub invariant-loop-text : goal.invariant-loop-text
invariant-loop-text l =
    read_after (options_in l.usage) (as_read l.reader.arguments) (as_next l.reader.next) (map (λ arg. arg.now) (drop l.text-index l.args))
    ≡ read_arguments (options_in l.usage) (map (λ arg. arg.now) l.args)
