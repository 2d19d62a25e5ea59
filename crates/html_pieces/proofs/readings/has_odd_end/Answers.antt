use Rattle.std.proofs.Common.{◌∙◌, ap, sym, drop, arith, nat_eq, codes}
use Rattle.std.specs.List.{starts_with}
use Rattle.std.proofs.lemmas.List.{take_all, length-drop}
use Rattle.html_pieces.proofs.WordsWithin.{odd_end_on}
use Rattle.html_pieces.proofs.readings.has_odd_end.Goals as goal

pub loop-i-preserved : goal.loop-i-preserved
loop-i-preserved c =
    let bytes = c.args.comment.now in
    let rest = drop c.loop-i.i bytes in
    odd_end_on bytes c.loop-i.i c.loop-i-test.true
    (ap (λ xs. starts_with nat_eq xs (codes "--!>")) (sym (take_all _ rest (omega (arith, length-drop c.loop-i.i bytes)))) ∙ sym c.starts_with.ensures.value ∙ c.if-starts_with.false)
    ∙ c.loop-i.invariant
