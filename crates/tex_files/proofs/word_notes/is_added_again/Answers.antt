use Rattle.std.proofs.Common.{rules, ◌∙◌, ap}
use Rattle.std.specs.Prelude.{is_some}
use Rattle.tex_files.proofs.word_notes.is_added_again.Goals as goal

pub returns-clause-was_there : goal.returns-clause-was_there
returns-clause-was_there c = λ known are. c.is_some.ensures ∙ ap is_some c.in_ok-insert.ensures.old ∙ are c.args.text
