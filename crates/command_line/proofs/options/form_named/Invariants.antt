use Rattle.std.specs.Prelude.{◌≡◌, length}
use Rattle.std.specs.List.{filter_map}
use Rattle.hyphenation_grammar.specs.Lines.{lines_of}
use Rattle.command_line.specs.Options.{form_named}
use Rattle.command_line.specs.Usage.{option_in, options_in}
use Rattle.command_line.proofs.options.form_named.Given as goal

-- The first option of that name is in the lines to come.
abbrev pub invariant-loop-line : goal.invariant-loop-line
invariant-loop-line l = form_named (filter_map option_in (lines_of l.rest)) l.name ≡ form_named (options_in l.usage) l.name

abbrev pub decreases-loop-line : goal.decreases-loop-line
decreases-loop-line l = length l.rest
