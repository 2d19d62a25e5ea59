use Rattle.std.specs.String.{string_bytes}
use Rattle.hyphenation_breaks.specs.Borrowed.{texts_now}
use Rattle.html_command.proofs.Runs.{hyphenated_so}
use Rattle.html_command.proofs.run.result_of.Goals as goal

pub returns-clause-result : goal.returns-clause-result
returns-clause-result g c =
    hyphenated_so c.args.options.now (g.F.NamedFiles.bytes c.args.files.now) (texts_now c.args.folders.now) c.args.page.now c.in_ok-cut.cut (string_bytes c.in_ok-text.text) c.in_ok-notes.notes.items
    c.load_for_page.new.all.items c.deref.result.now c.deref-2.result.now c.in_ok-cut.ensures c.deref.ensures.value c.deref-2.ensures.value
    c.in_ok-load_for_page.ensures.codes c.in_ok-load_for_page.ensures.dictionaries c.in_ok-text.ensures.marked c.in_ok-text.ensures.kept c.in_ok-text.ensures.twice c.in_ok-notes.ensures
