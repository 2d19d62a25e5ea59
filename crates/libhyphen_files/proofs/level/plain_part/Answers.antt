use Rattle.std.proofs.Common.{◌∙◌, sym}
use Rattle.libhyphen_files.proofs.PlainLines.{is_plain}
use Rattle.libhyphen_files.proofs.level.plain_part.Goals as goal

pub returns : goal.returns
returns c =
    is_plain c.args.line.now c.in_ok-part.part.now (sym c.starts_with.ensures.value ∙ c.if-starts_with.false)
    (sym c.may_be_setting.ensures ∙ c.if-may_be_setting.false) c.in_ok-part.ensures
