use Rattle.std.proofs.Common.{◌∙◌, ap, sym}
use Rattle.libhyphen_files.specs.Levels.{with_text}
use Rattle.libhyphen_files.specs.Private.Growing.{level_in}
use Rattle.libhyphen_files.proofs.LevelsLemmas.{line_read}
use Rattle.libhyphen_files.proofs.level.GrowingLevel.add_other.Goals as goal

pub returns-clause-added : goal.returns-clause-added
returns-clause-added c =
    let level = level_in c.args.self.now in
    let read = line_read c.args.utf8 level c.args.line.now (sym c.starts_with.ensures.value ∙ c.if-starts_with.false) in
    c.in_ok-add_text.ensures.added ∙ ap (with_text c.args.utf8 level) c.before_nul.ensures ∙ sym read
