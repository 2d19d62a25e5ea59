use Rattle.std.proofs.Common.{sym, ◌∙◌}
use Rattle.html_pieces.proofs.QuietBytes.{quiet_stays}
use Rattle.html_pieces.proofs.tokenizer.state_after.Goals as goal

pub returns-then-is_quiet : goal.returns-then-is_quiet
returns-then-is_quiet c = sym (quiet_stays c.args.form c.args.foreign c.args.state c.args.front.now c.args.byte (sym c.is_quiet.ensures ∙ c.if-is_quiet.true))
