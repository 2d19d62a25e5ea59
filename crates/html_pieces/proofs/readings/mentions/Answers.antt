use Rattle.std.proofs.Common.{◌∙◌, ap, sym, drop, arith}
use Rattle.std.proofs.lemmas.List.{take_all, length-drop}
use Rattle.html_pieces.specs.Readings.{begins_with_word}
use Rattle.html_pieces.proofs.WordsWithin.{mention_on}
use Rattle.html_pieces.proofs.readings.mentions.Goals as goal

pub loop-i-preserved : goal.loop-i-preserved
loop-i-preserved c =
    let word = c.args.word.now in
    let bytes = c.args.bytes.now in
    let rest = drop c.loop-i.i bytes in
    mention_on word bytes c.loop-i.i c.loop-i-test.true
    (ap (begins_with_word word) (sym (take_all _ rest (omega (arith, length-drop c.loop-i.i bytes)))) ∙ sym c.begins_with_word.ensures ∙ c.if-begins_with_word.false)
    ∙ c.loop-i.invariant
