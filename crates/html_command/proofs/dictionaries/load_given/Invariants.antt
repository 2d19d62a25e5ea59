use Rattle.std.specs.Prelude.{map, take}
use Rattle.command_line.specs.Adjustments.{as_adjustments}
use Rattle.html_command.specs.Dictionaries.{AreGiven}
use Rattle.html_command.specs.Private.Requests.{parsed_dictionary}
use Rattle.html_command.proofs.dictionaries.load_given.Given as goal

abbrev pub invariant-loop-one : goal.invariant-loop-one
invariant-loop-one g l =
    AreGiven (g.F.NamedFiles.bytes l.files) (as_adjustments l.adjustments) (map parsed_dictionary (take l.one-index l.given)) l.all.items
