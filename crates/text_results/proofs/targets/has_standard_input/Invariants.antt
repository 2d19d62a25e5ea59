use Rattle.std.proofs.Common.{◌≡◌, drop}
use Rattle.std.specs.List.{list_any}
use Rattle.command_line.specs.Inputs.{is_standard_input}
use Rattle.hyphenation_breaks.specs.Borrowed.{texts_now}
use Rattle.text_results.proofs.targets.has_standard_input.Given as goal

abbrev pub invariant-loop-name : goal.invariant-loop-name
invariant-loop-name l =
    list_any is_standard_input (texts_now (drop l.name-index l.names)) ≡ list_any is_standard_input (texts_now l.names)
