use Rattle.std.proofs.Common.{ap, map}
use Rattle.std.specs.String.{string_bytes}
use Rattle.std.proofs.lemmas.Result.{IfErr-weaker}
use Rattle.hyphenation_breaks.specs.Borrowed.{texts_now}
use Rattle.text_results.specs.Reading.{as_target, parsed_removal}
use Rattle.text_results.specs.Removals.{AreRests}
use Rattle.text_results.specs.Texts.{IsFailureAmong}
use Rattle.text_results.proofs.Removing.{fails_given, never_of_writing, writes_given}
use Rattle.text_results.proofs.removal.remove.Goals as goal

pub returns-clause-written : goal.returns-clause-written
returns-clause-written g c =
    let bytes_of = g.F.NamedFiles.bytes c.args.files.now in
    let left = g.I.Read.remaining c.args.input.now in
    let inputs = (parsed_removal c.args.removal.now).inputs in
    writes_given c.write_results.result (AreRests c.args.removal.now.source bytes_of left inputs) (as_target c.args.removal.now.target) inputs
    g.O.Write.contents c.args.output.now c.write_results.new.output g.S.ReplaceFiles.written c.args.store.now c.write_results.new.store
    (texts_now c.deref.result.now) (map string_bytes c.deref-2.result.now) (map string_bytes c.in_ok-rests.rests.items)
    (ap texts_now c.deref.ensures.value) (ap (map string_bytes) c.deref-2.ensures.value) c.in_ok-rests.ensures.rests
    c.write_results.ensures.output c.write_results.ensures.files

pub returns-clause-failure : goal.returns-clause-failure
returns-clause-failure g c =
    let bytes_of = g.F.NamedFiles.bytes c.args.files.now in
    let left = g.I.Read.remaining c.args.input.now in
    let inputs = (parsed_removal c.args.removal.now).inputs in
    fails_given c.write_results.result (AreRests c.args.removal.now.source bytes_of left inputs) (IsFailureAmong bytes_of left inputs) (as_target c.args.removal.now.target) inputs
    g.S.ReplaceFiles.written c.args.store.now c.write_results.new.store
    (texts_now c.deref.result.now) (map string_bytes c.deref-2.result.now) (map string_bytes c.in_ok-rests.rests.items)
    (ap texts_now c.deref.ensures.value) (ap (map string_bytes) c.deref-2.ensures.value) c.in_ok-rests.ensures.rests
    c.write_results.ensures.failure

pub returns-clause-no_dictionary : goal.returns-clause-no_dictionary
returns-clause-no_dictionary g c =
    IfErr-weaker c.write_results.result _ _
    (λ failure fails. never_of_writing (as_target c.args.removal.now.target) (texts_now c.deref.result.now) (map string_bytes c.deref-2.result.now)
    (g.S.ReplaceFiles.written c.args.store.now) (g.S.ReplaceFiles.written c.write_results.new.store) failure fails)
    c.write_results.ensures.failure
