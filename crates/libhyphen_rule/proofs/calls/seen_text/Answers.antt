use Rattle.std.proofs.Common.{sym, take}
use Rattle.libhyphen_rule.proofs.PlainCompounds.{no_digits}
use Rattle.libhyphen_rule.proofs.calls.seen_text.Goals as goal

pub returns-clause-word : goal.returns-clause-word
returns-clause-word c = no_digits (take c.args.size c.args.text.now) (sym c.if-has_digit.ensures)
