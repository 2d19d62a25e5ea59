use Rattle.std.proofs.Common.{◌∙◌, ap, map}
use Rattle.std.specs.String.{string_bytes}
use Rattle.std.proofs.lemmas.Result.{err_from_is_err_and}
use Rattle.hyphenation_breaks.specs.Borrowed.{texts_now}
use Rattle.html_command.specs.Private.Requests.{parsed_request}
use Rattle.html_command.proofs.Endings.{fails_so, writes_so}
use Rattle.html_command.proofs.run.run.Goals as goal

pub returns-clause-written : goal.returns-clause-written
returns-clause-written g c =
    let has = c.in_ok-results.ensures.results in
    writes_so (parsed_request c.args.request.now) (g.F.NamedFiles.bytes c.args.files.now) (texts_now c.args.folders.now) (g.I.Read.remaining c.args.input.now) has.0
    g.O.Write.contents c.args.output.now c.write_results.new.output g.S.ReplaceFiles.written c.args.store.now c.write_results.new.store
    (texts_now c.deref.result.now) (map string_bytes c.deref-2.result.now) c.in_ok-results.results.notes.items
    (ap texts_now c.deref.ensures.value) (ap (map string_bytes) c.deref-2.ensures.value ∙ has.2.0) has.1 has.2.1
    c.in_ok-write_results.ensures.output c.in_ok-write_results.ensures.files

pub returns-in_err-write_results-clause-failure : goal.returns-in_err-write_results-clause-failure
returns-in_err-write_results-clause-failure g c =
    let p = err_from_is_err_and c.from_residual-in_err-write_results.result c.from_residual-in_err-write_results.ensures.1 in
    let has = c.in_ok-results.ensures.results in
    fails_so (parsed_request c.args.request.now) (g.F.NamedFiles.bytes c.args.files.now) (texts_now c.args.folders.now) (g.I.Read.remaining c.args.input.now) has.0
    g.S.ReplaceFiles.written c.args.store.now c.write_results.new.store
    (texts_now c.deref.result.now) (map string_bytes c.deref-2.result.now)
    c.in_err-write_results.field-0.0 p.0 c.from_residual-in_err-write_results.result
    (ap texts_now c.deref.ensures.value) (ap (map string_bytes) c.deref-2.ensures.value ∙ has.2.0) has.1
    c.in_err-write_results.ensures.failure p.1 p.2
