use Rattle.std.proofs.Common.{◌+◌, ◌<◌, map, length, get_or, arith, ap, refl, sym, ◌∙◌}
use Rattle.html_pieces.specs.Pieces.{as_piece}
use Rattle.html_pieces.specs.Pieces as specs
use Rattle.html_pieces.specs.declared.tokenizer.State.TheVariants.{Data}
use Rattle.html_pieces.proofs.PieceSteps.{Told, told_first, told_on, told_alike, told_pushed, told_up_to}
use Rattle.html_pieces.proofs.tokenizer.pieces.Goals as goal
use Rattle.html_pieces.proofs.tokenizer.pieces.Goals.{in-Some, in-None+in_ok-push-in-None}

pub loop-i-init : goal.loop-i-init
loop-i-init c =
    let same = c.as_bytes-bytes.ensures.value in
    let some : 0 < length c.args.page.now = rw (← same) (grind (arith, c.if-is_empty.ensures, c.is_empty.ensures, c.if-is_empty.false)) in
    told_alike _ _ _ _ (told_first c.args.form c.args.page.now c.utf8.page some) (ap (map as_piece) c.new-pieces.ensures.items)
    refl (c.begin-state.ensures ∙ ap (λ bs. specs.begin Data (get_or bs 0 0)) same) refl

pub loop-i-preserved : goal.loop-i-preserved
loop-i-preserved c =
    let same = c.as_bytes-bytes.ensures.value in
    let now = c.match-state_after in
    let told : Told c.args.form c.args.page.now (map as_piece now.pieces.items) now.depth now.state now.start (c.loop-i.i + 1) =
    elim c.match-state_after.branch [
      | in-Some w ↦
          told_alike _ _ _ _ (told_on c.args.form c.args.page.now c.as_bytes-bytes.result.now _ _ _ w.in-Some.after c.loop-i.start c.loop-i.i same c.loop-i.invariant c.loop-i-test.true (sym c.state_after.ensures ∙ w.in-Some.is))
          (ap (λ v. map as_piece v.items) w.pieces-is) w.depth-is w.state-is w.start-is
      | in-None+in_ok-push-in-None w ↦
          told_alike _ _ _ _ (told_pushed c.args.form c.args.page.now c.as_bytes-bytes.result.now c.loop-i.pieces.items w.push.new.self.items _ c.loop-i.depth w.depth_after-depth.result c.loop-i.state w.content_after-content.result _ c.loop-i.start c.loop-i.i same c.loop-i.invariant c.loop-i-test.true
          (sym c.state_after.ensures ∙ w.in-None.is) w.in_ok-push-in-None.ensures.items w.kind_of.ensures w.range.ensures.value w.content_after-content.ensures w.depth_after-depth.ensures w.begin-state-in-None.ensures)
          (ap (λ v. map as_piece v.items) w.pieces-is) w.depth-is w.state-is w.start-is
    ] in
    told_up_to c.args.form c.args.page.now c.as_bytes-bytes.result.now _ _ _ _ (c.loop-i.i + 1) c.after_quiet-i.result same told c.after_quiet-i.ensures.passed c.after_quiet-i.ensures.within c.after_quiet-i.ensures.quiet
