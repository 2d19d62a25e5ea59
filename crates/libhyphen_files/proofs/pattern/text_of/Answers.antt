use Rattle.std.proofs.Common.{ap, sym, ◌∙◌}
use Rattle.libhyphen_files.specs.Patterns.{text_of}
use Rattle.libhyphen_files.proofs.CutTexts.{text_of_several}
use Rattle.libhyphen_files.proofs.pattern.text_of.Goals as goal

pub returns-in-Some : goal.returns-in-Some
returns-in-Some c =
    let parts = rw c.in-Some.is at c.cut_at.ensures.split in
    sym (ap text_of parts ∙ text_of_several c.cut_at.result.0.now c.in-Some.field-0.now)
