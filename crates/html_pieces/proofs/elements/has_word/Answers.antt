use Rattle.std.proofs.Common.{◌||◌, ◌∙◌, sym, ap, arith, ◌+◌, drop, slice_range}
use Rattle.html_pieces.specs.Elements.{has_word_from}
use Rattle.html_pieces.proofs.WordSteps.{word_on, word_ends}
use Rattle.html_pieces.proofs.elements.has_word.Goals as goal
use Rattle.html_pieces.proofs.elements.has_word.Goals.{then-is_white_space+else-eq, else-is_white_space}

pub loop-i-preserved : goal.loop-i-preserved
loop-i-preserved c =
    elim c.if-is_white_space.branch [
      | then-is_white_space+else-eq w ↦
          let ends = word_ends c.args.word.now c.args.text.now c.loop-i.start c.loop-i.i c.loop-i-test.true (sym c.is_white_space.ensures ∙ w.if-is_white_space.true) in
          rw w.start-is (record {
            started = omega arith;
            told = ap (λ b. b || has_word_from c.args.word.now (slice_range c.args.text.now (c.loop-i.i + 1) (c.loop-i.i + 1)) (drop (c.loop-i.i + 1) c.args.text.now)) (sym (sym w.eq.ensures ∙ w.if-eq.false)) ∙ sym ends ∙ c.loop-i.invariant.told;
          })
      | else-is_white_space w ↦
          let on = word_on c.args.word.now c.args.text.now c.loop-i.start c.loop-i.i c.loop-i.invariant.started c.loop-i-test.true (sym c.is_white_space.ensures ∙ w.if-is_white_space.false) in
          rw w.start-is (record { started = omega (arith, c.loop-i.invariant.started); told = sym on ∙ c.loop-i.invariant.told })
    ]
