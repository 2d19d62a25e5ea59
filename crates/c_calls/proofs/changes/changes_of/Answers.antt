use Rattle.std.proofs.Common.{map, sym, subst}
use Rattle.hyphenation_segments.specs.Fits.{Fits}
use Rattle.c_calls.proofs.Stands.{each_stands}
use Rattle.c_calls.proofs.changes.changes_of.Goals as goal

pub as_change-requires : goal.as_change-requires
as_change-requires g c =
    let text = c.args.word.now.text.now in
    let meaning = g.B.Break.meaning in
    let listed = c.deref-b-items.result.now in
    let fit = subst (λ xs. Fits text (map meaning xs)) (sym c.deref-b-items.ensures.value) c.args.word.now.fit in
    each_stands meaning text listed 0 0 fit _ _ c.loop-b-test.true c.b-item.is
