use Rattle.std.proofs.Common.{◌≡◌, map}
use Rattle.std.specs.String.{string_bytes}
use Rattle.std.proofs.lemmas.Result.{IfErr-weaker, IfOk-weaker}
use Rattle.hyphenation_breaks.specs.Borrowed.{texts_now}
use Rattle.text_command.specs.Private.Requests.{parsed_request}
use Rattle.text_command.proofs.Runs.{after_dictionary, results_are, text_fails}
use Rattle.text_command.proofs.run.results_of.Goals as goal

pub returns-in-Ok-clause-results : goal.returns-in-Ok-clause-results
returns-in-Ok-clause-results g c =
    IfOk-weaker c.results_by.result _ _
    (λ results by. results_are (parsed_request c.args.request.now) c.in-Ok.dictionary (g.F.NamedFiles.bytes c.args.files.now) (texts_now c.args.folders.now) (g.I.Read.remaining c.args.input.now)
    (map string_bytes results.items) c.in-Ok.ensures.loaded by)
    c.results_by.ensures.results

pub returns-in-Ok-clause-failure : goal.returns-in-Ok-clause-failure
returns-in-Ok-clause-failure g c =
    IfErr-weaker c.results_by.result _ _
    (λ failure among. text_fails (parsed_request c.args.request.now) c.in-Ok.dictionary (g.F.NamedFiles.bytes c.args.files.now) (texts_now c.args.folders.now) (g.I.Read.remaining c.args.input.now)
    failure c.in-Ok.ensures.loaded among)
    c.results_by.ensures.failure

pub returns-in-Ok-clause-dictionary_first : goal.returns-in-Ok-clause-dictionary_first
returns-in-Ok-clause-dictionary_first g c =
    IfErr-weaker c.results_by.result _ _
    (λ failure among. after_dictionary (c.results_by.new.input ≡ c.args.input.now) (g.F.NamedFiles.bytes c.args.files.now) (g.I.Read.remaining c.args.input.now)
    (texts_now c.args.request.now.inputs.items) failure among)
    c.results_by.ensures.failure
