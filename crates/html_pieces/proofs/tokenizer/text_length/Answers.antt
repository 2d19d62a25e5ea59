use Rattle.std.proofs.Common.{length}
use Rattle.html_pieces.proofs.QuietSteps.{quiet_up_to}
use Rattle.html_pieces.proofs.tokenizer.text_length.Goals as goal

pub returns-in-Some-clause-quiet : goal.returns-in-Some-clause-quiet
returns-in-Some-clause-quiet c = quiet_up_to c.args.bytes.now c.in-Some.passed c.in-Some.ensures.0.before

pub returns-in-None-clause-quiet : goal.returns-in-None-clause-quiet
returns-in-None-clause-quiet c = quiet_up_to c.args.bytes.now (length c.args.bytes.now) c.in-None.ensures
