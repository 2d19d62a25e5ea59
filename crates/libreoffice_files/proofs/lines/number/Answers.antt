use Rattle.std.proofs.Common.{◌∙◌}
use Rattle.libreoffice_files.proofs.Texts.{parsed}
use Rattle.libreoffice_files.proofs.lines.number.Goals as goal

pub returns : goal.returns
returns c = c.ok.ensures.value ∙ parsed 64 c.args.text.now c.parse.result c.parse.ensures.value.0
