use Rattle.std.proofs.Common.{arith, get_or, ◌<◌}
use Rattle.std.proofs.lemmas.Str.{IsCharBoundary-after_ascii}
use Rattle.text_words.proofs.words.first_length.Goals as goal

pub returns-then-is_sign-clause-boundary : goal.returns-then-is_sign-clause-boundary
returns-then-is_sign-clause-boundary c =
    let low : get_or c.args.piece.now 0 0 < 128 = grind (arith, c.if-is_sign.true, c.is_sign.ensures) in
    IsCharBoundary-after_ascii c.args.piece.now 0 c.utf8.piece (omega (arith, c.requires)) low
