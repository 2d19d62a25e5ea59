use Rattle.std.proofs.Common.{inr, map, rules}
use Rattle.std.specs.String.{string_bytes}
use Rattle.command_line.specs.Adjustments.{as_adjustments, IsFailureOfAdjusting}
use Rattle.command_line.proofs.Files.{is_error}
use Rattle.command_line.proofs.adjustments.adjust.Goals as goal

pub returns-in_err-own-clause-failure : goal.returns-in_err-own-clause-failure
returns-in_err-own-clause-failure g c =
    is_error
    (IsFailureOfAdjusting (g.F.NamedFiles.bytes c.args.files.now) (map string_bytes c.args.paths.now) (as_adjustments c.args.adjustments.now) c.args.dictionary)
    c.from_residual-in_err-own.result c.in_err-own.field-0.0 (search rules)
    (inr (c.in_ok-usual.usual, c.in_ok-usual.ensures.added, c.in_err-own.ensures.failure))
