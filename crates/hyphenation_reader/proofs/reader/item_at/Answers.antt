use Rattle.std.proofs.Common.{◌∙◌, ap}
use Rattle.hyphenation_reader.specs.Private.Refusals.{at_number}
use Rattle.hyphenation_reader.proofs.JudgingLine.{alike}
use Rattle.hyphenation_reader.proofs.reader.item_at.Goals as goal

pub returns-in-Ok-clause-passes : goal.returns-in-Ok-clause-passes
returns-in-Ok-clause-passes g c = alike c.args.form c.args.number c.args.line.now c.requires.past_head ∙ (rw c.in-Ok.is at c.in_ok-item.ensures.passes)

pub returns-in-Err-clause-refused : goal.returns-in-Err-clause-refused
returns-in-Err-clause-refused g c =
    ap (at_number c.args.number) (alike c.args.form c.args.number c.args.line.now c.requires.past_head) ∙ ap (at_number c.args.number) (rw c.in-Err.is at c.in_ok-item.ensures.refused)
