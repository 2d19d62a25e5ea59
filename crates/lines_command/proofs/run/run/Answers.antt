use Rattle.std.proofs.Common.{subst, rules}
use Rattle.std.specs.String.{string_bytes}
use Rattle.std.proofs.lemmas.Result.{err_from_is_err_and}
use Rattle.hyphenation_breaks.specs.Borrowed.{texts_now}
use Rattle.lines_command.proofs.Runs.{run_fails, run_reads_after}
use Rattle.lines_command.specs.Private.Requests.{parsed_request}
use Rattle.lines_command.specs.Written.{HasPages, IsFailureAmong}
use Rattle.lines_command.proofs.run.run.Goals as goal

pub returns-in_err-page-clause-failure : goal.returns-in_err-page-clause-failure
returns-in_err-page-clause-failure g c =
    let parsed = parsed_request c.args.request.now in
    let bytes_of = g.F.NamedFiles.bytes c.args.files.now in
    let left = g.I.Read.remaining c.args.input.now in
    let p = err_from_is_err_and c.from_residual-in_err-page.result c.from_residual-in_err-page.ensures.1 in
    run_fails parsed c.in_ok-dictionary.dictionary bytes_of (texts_now c.args.folders.now) left _ p.0 c.from_residual-in_err-page.result c.in_ok-dictionary.ensures.loaded
    (subst (λ names. IsFailureAmong parsed.options c.in_ok-dictionary.dictionary bytes_of left (texts_now names) c.in_err-page.field-0.0) c.deref.ensures.value c.in_err-page.ensures.failure) p.1 p.2

pub returns-in_err-page-clause-dictionary_first : goal.returns-in_err-page-clause-dictionary_first
returns-in_err-page-clause-dictionary_first g c =
    let parsed = parsed_request c.args.request.now in
    let bytes_of = g.F.NamedFiles.bytes c.args.files.now in
    let left = g.I.Read.remaining c.args.input.now in
    let p = err_from_is_err_and c.from_residual-in_err-page.result c.from_residual-in_err-page.ensures.1 in
    run_reads_after _ parsed c.in_ok-dictionary.dictionary bytes_of left _ p.0 c.from_residual-in_err-page.result
    (subst (λ names. IsFailureAmong parsed.options c.in_ok-dictionary.dictionary bytes_of left (texts_now names) c.in_err-page.field-0.0) c.deref.ensures.value c.in_err-page.ensures.failure) p.1 p.2

pub returns-in-Ok-clause-written : goal.returns-in-Ok-clause-written
returns-in-Ok-clause-written g c =
    let parsed = parsed_request c.args.request.now in
    let bytes_of = g.F.NamedFiles.bytes c.args.files.now in
    let left = g.I.Read.remaining c.args.input.now in
    let dictionary = c.in_ok-dictionary.dictionary in (
      string_bytes c.in_ok-page.page,
      record {
        dictionary = dictionary;
        named = c.in_ok-dictionary.ensures.loaded;
        plain = c.standard_breaks_are_plain.ensures;
        pages = subst (λ names. HasPages parsed.options dictionary bytes_of left (texts_now names) (string_bytes c.in_ok-page.page)) c.deref.ensures.value c.in_ok-page.ensures.pages;
      },
      search rules,
    )

pub returns-clause-failure : goal.returns-clause-failure
returns-clause-failure g c =
    let parsed = parsed_request c.args.request.now in
    let bytes_of = g.F.NamedFiles.bytes c.args.files.now in
    let left = g.I.Read.remaining c.args.input.now in
    let dictionary = c.in_ok-dictionary.dictionary in (
      string_bytes c.in_ok-page.page,
      record {
        dictionary = dictionary;
        named = c.in_ok-dictionary.ensures.loaded;
        plain = c.standard_breaks_are_plain.ensures;
        pages = subst (λ names. HasPages parsed.options dictionary bytes_of left (texts_now names) (string_bytes c.in_ok-page.page)) c.deref.ensures.value c.in_ok-page.ensures.pages;
      },
    )
