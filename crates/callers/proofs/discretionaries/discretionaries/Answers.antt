use Rattle.std.proofs.Common.{map, sym, subst}
use Rattle.hyphenation_segments.specs.Fits.{Fits}
use Rattle.callers.proofs.PlacesOfBreaks.{each_stands}
use Rattle.callers.proofs.discretionaries.discretionaries.Goals as goal

pub set_at-requires : goal.set_at-requires
set_at-requires g c =
    let text = c.args.word.now.text.now in
    let meaning = g.B.Break.meaning in
    let listed = c.deref-b-items.result.now in
    let fit = subst (λ xs. Fits text (map meaning xs)) (sym c.deref-b-items.ensures.value) c.args.word.now.fit in
    each_stands meaning text listed 0 0 fit _ _ c.loop-b-test.true c.b-item.is
