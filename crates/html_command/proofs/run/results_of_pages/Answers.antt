use Rattle.std.proofs.Common.{◌∙◌, ◌++◌, ap, arith, map, subst, sym}
use Rattle.std.proofs.lemmas.List.{take_all}
use Rattle.std.proofs.lemmas.Result.{err_from_is_err_and}
use Rattle.std.specs.String.{string_bytes}
use Rattle.hyphenation_breaks.specs.Borrowed.{texts_now}
use Rattle.html_command.specs.Notes.{notes_at}
use Rattle.html_command.specs.Private.Requests.{parsed_dictionary, parsed_options}
use Rattle.html_command.specs.Private.Runs.{AreResultsBy}
use Rattle.html_command.specs.Written.{IsHyphenatedPage}
use Rattle.html_command.proofs.Refused.{of_given_so}
use Rattle.html_command.proofs.Runs.{hyphenated_more}
use Rattle.html_command.proofs.run.results_of_pages.Goals as goal

pub loop-page-preserved : goal.loop-page-preserved
loop-page-preserved g c = (
  hyphenated_more string_bytes (IsHyphenatedPage (parsed_options c.args.options.now) (g.F.NamedFiles.bytes c.args.files.now) (texts_now c.args.folders.now))
      c.args.pages.now c.loop-page.page-index c.page-item.result c.deref-in-loop-page.result.now c.loop-page.texts.items c.push.new.texts.items c.loop-page.notes.items c.push_notes.new.all.items
      c.in_ok-one.one.text c.in_ok-one.one.notes.items c.len.result
      c.loop-page-test.true c.page-item.is c.loop-page.invariant.0 c.in_ok-one.ensures.result c.deref-in-loop-page.ensures (omega (arith, c.len.ensures, c.loop-page.texts.ok.0)) c.in_ok-push.ensures (c.in_ok-push_notes.ensures ∙ ap (λ own. c.loop-page.notes.items ++ notes_at c.len.result own) c.deref-in-loop-page-2.ensures.value),
  c.in_ok-one.ensures.loaded,
)

pub returns-clause-results : goal.returns-clause-results
returns-clause-results g c =
    subst (λ pages. AreResultsBy c.args.options.now (g.F.NamedFiles.bytes c.args.files.now) c.args.folders.now pages c.loop-page.texts.items c.loop-page.notes.items)
    (take_all c.loop-page.page-index c.args.pages.now c.loop-page-test.false) c.loop-page.invariant.0

pub returns-in_err-all-clause-failure : goal.returns-in_err-all-clause-failure
returns-in_err-all-clause-failure g c =
    let p = err_from_is_err_and c.from_residual.result c.from_residual.ensures.1 in
    of_given_so (g.F.NamedFiles.bytes c.args.files.now) (parsed_options c.args.options.now) (texts_now c.args.folders.now) c.deref.result.now
    c.in_err-all.field-0.0 p.0 c.from_residual.result (ap (map parsed_dictionary) (sym c.deref.ensures.value)) c.in_err-all.ensures.failure p.1 p.2
