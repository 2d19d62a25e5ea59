use Rattle.std.proofs.Common.{◌≡◌, false, drop, map}
use Rattle.std.specs.List.{list_any}
use Rattle.std.specs.String.{string_bytes}
use Rattle.command_line.specs.Inputs.{is_standard_input}
use Rattle.hyphenation_breaks.specs.Borrowed.{texts_now}
use Rattle.text_results.specs.Private.Runs.{GoesOn}
use Rattle.text_results.proofs.texts.read_texts.Given as goal

abbrev pub invariant-loop-name : goal.invariant-loop-name
invariant-loop-name g l = record {
  read : GoesOn (g.F.NamedFiles.bytes l.files) (g.I.Read.remaining l.fn.input) (texts_now l.inputs) (g.I.Read.remaining l.input) (texts_now (drop l.name-index l.inputs)) (map string_bytes l.texts.items);
  unread : list_any is_standard_input (texts_now l.inputs) ≡ false → (l.input ≡ l.fn.input) × (list_any is_standard_input (texts_now (drop l.name-index l.inputs)) ≡ false);
}
