use Rattle.std.proofs.Common.{map}
use Rattle.std.specs.List.{list_any}
use Rattle.std.specs.String.{string_bytes}
use Rattle.command_line.specs.Inputs.{is_standard_input}
use Rattle.hyphenation_breaks.specs.Borrowed.{texts_now}
use Rattle.text_results.proofs.Reading.{goes_on_at, ends_at, unread_at}
use Rattle.text_results.proofs.texts.read_texts.Goals as goal

pub loop-name-preserved : goal.loop-name-preserved
loop-name-preserved g c = record {
  read =
      goes_on_at (g.F.NamedFiles.bytes c.args.files.now) g.I.Read.remaining c.loop-name.input c.read_text.new.input (g.I.Read.remaining c.args.input.now) (texts_now c.args.inputs.now)
      c.args.inputs.now c.loop-name.name-index _ (string_bytes c.in_ok-text.text) (map string_bytes c.loop-name.texts.items) (map string_bytes c.push.new.texts.items)
      c.loop-name-test.true c.loop-name.invariant.read c.in_ok-text.ensures.text c.in_ok-push.ensures c.read_text.ensures.unread;
  unread =
      unread_at c.args.input.now c.loop-name.input c.read_text.new.input (list_any is_standard_input (texts_now c.args.inputs.now))
      c.args.inputs.now c.loop-name.name-index _ c.loop-name-test.true c.loop-name.invariant.unread c.read_text.ensures.unread;
}

pub returns-clause-texts : goal.returns-clause-texts
returns-clause-texts g c =
    ends_at (g.F.NamedFiles.bytes c.args.files.now) (g.I.Read.remaining c.args.input.now) (texts_now c.args.inputs.now) (g.I.Read.remaining c.loop-name.input)
    c.args.inputs.now c.loop-name.name-index (map string_bytes c.loop-name.texts.items) c.loop-name-test.false c.loop-name.invariant.read
