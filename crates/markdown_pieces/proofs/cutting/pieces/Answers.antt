use Rattle.std.proofs.Common.{◌<◌, map, length, get_or, arith, ap, refl, sym, ◌∙◌}
use Rattle.markdown_pieces.specs.Pieces.{as_piece}
use Rattle.markdown_pieces.specs.Pieces as pieces
use Rattle.markdown_pieces.specs.States as states
use Rattle.markdown_pieces.proofs.PieceSteps.{told_first, told_alike, told_same, told_pushed}
use Rattle.markdown_pieces.proofs.cutting.pieces.Goals as goal
use Rattle.markdown_pieces.proofs.cutting.pieces.Goals.{then-not-is_same_kind+in_ok-push, else-not-is_same_kind}

pub loop-i-init : goal.loop-i-init
loop-i-init c =
    let same = c.as_bytes-bytes.ensures.value in
    let some : 0 < length c.args.text.now = rw (← same) (grind (arith, c.if-is_empty.ensures, c.is_empty.ensures, c.if-is_empty.false)) in
    told_alike _ _ _ _ (told_first c.args.text.now c.utf8.text some) (ap (map as_piece) c.new-pieces.ensures.items)
    (c.next-state.ensures ∙ ap (λ s. states.next s (get_or c.as_bytes-bytes.result.now 0 0)) c.first_state-2.ensures ∙ ap (λ bs. states.next states.first_state (get_or bs 0 0)) same)
    (c.kind_of-kind.ensures ∙ ap (λ s. pieces.kind_of s (get_or c.as_bytes-bytes.result.now 0 0)) c.first_state.ensures ∙ ap (λ bs. pieces.kind_of states.first_state (get_or bs 0 0)) same)
    refl

pub loop-i-preserved : goal.loop-i-preserved
loop-i-preserved c =
    let same = c.as_bytes-bytes.ensures.value in
    elim c.if-not-is_same_kind.branch [
      | then-not-is_same_kind+in_ok-push w ↦
          told_alike _ _ _ _ (told_pushed c.args.text.now c.as_bytes-bytes.result.now c.loop-i.pieces.items w.push.new.self.items _ c.loop-i.state c.state_after-state.result c.loop-i.kind c.kind_after-after.result c.loop-i.start c.loop-i.i same c.loop-i.invariant c.loop-i-test.true
          c.kind_after-after.ensures (sym c.is_same_kind.ensures ∙ w.if-not-is_same_kind.true) c.state_after-state.ensures w.in_ok-push.ensures.items refl w.range.ensures.value)
          (ap (λ v. map as_piece v.items) w.pieces-is) refl w.kind-is w.start-is
      | else-not-is_same_kind w ↦
          told_alike _ _ _ _ (told_same c.args.text.now c.as_bytes-bytes.result.now _ c.loop-i.state c.state_after-state.result c.loop-i.kind c.kind_after-after.result c.loop-i.start c.loop-i.i same c.loop-i.invariant c.loop-i-test.true
          c.kind_after-after.ensures (sym c.is_same_kind.ensures ∙ w.if-not-is_same_kind.false) c.state_after-state.ensures)
          (ap (λ v. map as_piece v.items) w.pieces-is) refl w.kind-is w.start-is
    ]
