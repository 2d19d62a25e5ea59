use Rattle.std.proofs.Common.{sym}
use Rattle.paragraphs.proofs.Printable.{printable_columns}
use Rattle.paragraphs.proofs.setting.columns_of.Goals as goal

pub returns-then-is_printable : goal.returns-then-is_printable
returns-then-is_printable c = sym (printable_columns c.args.text.now (sym c.if-is_printable.ensures))
