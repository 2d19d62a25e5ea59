use Rattle.std.proofs.Common.{◌-◌, length, drop, take, arith}
use Rattle.std.proofs.lemmas.List.{length-drop, take_all}
use Rattle.html_pieces.proofs.QuietSteps.{quiet_from}
use Rattle.html_pieces.proofs.tokenizer.after_quiet.Goals as goal

pub returns-clause-quiet : goal.returns-clause-quiet
returns-clause-quiet c =
    let bytes = c.args.bytes.now in
    let rest = drop c.args.from bytes in
    quiet_from c.args.state bytes (take (length bytes - c.args.from) rest) c.args.from c.quiet_length.result
    (take_all _ rest (omega (arith, length-drop c.args.from bytes))) c.quiet_length.ensures.quiet
