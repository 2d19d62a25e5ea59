use Rattle.std.proofs.Common.{◌≡◌, false, length}
use Rattle.std.specs.List.{list_any}
use Rattle.std.specs.String.{string_bytes}
use Rattle.command_line.specs.Inputs.{is_standard_input}
use Rattle.hyphenation_breaks.specs.Borrowed.{texts_now}
use Rattle.lines_command.specs.Private.Requests.{parsed_options}
use Rattle.lines_command.specs.Private.Runs.{GoesOn}
use Rattle.lines_command.proofs.run.page_of.Given as goal

-- The page goes on with the inputs that are left. Standard input is as it was if it is none of the inputs.
abbrev pub invariant-loop-rest : goal.invariant-loop-rest
invariant-loop-rest g l = record {
  goes_on :
      GoesOn (parsed_options l.options) l.dictionary (g.F.NamedFiles.bytes l.files) (g.I.Read.remaining l.fn.input) (texts_now l.names) (g.I.Read.remaining l.input) (texts_now l.rest) (string_bytes l.page);
  unread : list_any is_standard_input (texts_now l.names) ≡ false → (l.input ≡ l.fn.input) × (list_any is_standard_input (texts_now l.rest) ≡ false);
}

abbrev pub decreases-loop-rest : goal.decreases-loop-rest
decreases-loop-rest g l = length l.rest
