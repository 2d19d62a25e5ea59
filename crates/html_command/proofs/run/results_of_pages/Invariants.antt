use Rattle.std.specs.Prelude.{take}
use Rattle.html_command.specs.Private.Runs.{AreLoadedBy, AreResultsBy}
use Rattle.html_command.proofs.run.results_of_pages.Given as goal

-- The pages so far have their results, and the dictionaries that are loaded are kept.
abbrev pub invariant-loop-page : goal.invariant-loop-page
invariant-loop-page g l =
    AreResultsBy l.options (g.F.NamedFiles.bytes l.files) l.folders (take l.page-index l.pages) l.texts.items l.notes.items
    × AreLoadedBy l.options (g.F.NamedFiles.bytes l.files) l.folders l.all.items l.others.items
