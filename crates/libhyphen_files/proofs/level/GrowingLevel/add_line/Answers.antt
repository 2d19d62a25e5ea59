use Rattle.std.proofs.Common.{◌∙◌, sym}
use Rattle.libhyphen_files.specs.Private.Growing.{level_in}
use Rattle.libhyphen_files.proofs.level.GrowingLevel.add_line.Goals as goal

pub returns-in-Some-clause-added : goal.returns-in-Some-clause-added
returns-in-Some-clause-added c =
    c.in_ok-add_spelt.ensures.added ∙ sym (c.in-Some.ensures c.args.utf8 (level_in c.args.self.now))
