use Rattle.std.proofs.Common.{ap, map}
use Rattle.std.specs.String.{string_bytes}
use Rattle.hyphenation_breaks.specs.Borrowed.{texts_now}
use Rattle.text_command.specs.Private.Requests.{parsed_request}
use Rattle.text_command.proofs.Endings.{fails_given, writes_given}
use Rattle.text_command.proofs.run.run.Goals as goal

pub returns-clause-written : goal.returns-clause-written
returns-clause-written g c =
    writes_given c.write_results.result (parsed_request c.args.request.now) (g.F.NamedFiles.bytes c.args.files.now) (texts_now c.args.folders.now) (g.I.Read.remaining c.args.input.now)
    g.O.Write.contents c.args.output.now c.write_results.new.output g.S.ReplaceFiles.written c.args.store.now c.write_results.new.store
    (texts_now c.deref.result.now) (map string_bytes c.deref-2.result.now) (map string_bytes c.in_ok-results.results.items)
    (ap texts_now c.deref.ensures.value) (ap (map string_bytes) c.deref-2.ensures.value) c.in_ok-results.ensures.results
    c.write_results.ensures.output c.write_results.ensures.files

pub returns-clause-failure : goal.returns-clause-failure
returns-clause-failure g c =
    fails_given c.write_results.result (parsed_request c.args.request.now) (g.F.NamedFiles.bytes c.args.files.now) (texts_now c.args.folders.now) (g.I.Read.remaining c.args.input.now)
    g.S.ReplaceFiles.written c.args.store.now c.write_results.new.store
    (texts_now c.deref.result.now) (map string_bytes c.deref-2.result.now) (map string_bytes c.in_ok-results.results.items)
    (ap texts_now c.deref.ensures.value) (ap (map string_bytes) c.deref-2.ensures.value) c.in_ok-results.ensures.results
    c.write_results.ensures.failure
