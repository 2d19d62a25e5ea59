use Rattle.std.proofs.Common.{◌≡◌, true, map, sym, ap, subst, IfNone}
use Rattle.std.proofs.lemmas.Result.{on_ok_weaker}
use Rattle.composed_words.specs.Composed.{is_composed}
use Rattle.text_words.specs.Words.{unless_mixed}
use Rattle.paragraphs.specs.Parts.{set_off}
use Rattle.paragraphs.specs.Private.Open.{Passes}
use Rattle.paragraphs.proofs.OnePiece.{own_breaks}
use Rattle.paragraphs.proofs.word.pass_composed.Goals as goal

pub returns-in-None : goal.returns-in-None
returns-in-None g c =
    let piece = c.args.piece.1.now in
    let same : is_composed piece ≡ true = subst (λ found. IfNone found (is_composed piece ≡ true)) c.in-None.is c.in_ok-composed.ensures.none in
    on_ok_weaker c.pass_unless_mixed.result
    (subst (λ bs. Passes (map (set_off c.args.piece.0) bs) c.args.parts.now.items c.args.current.now c.pass_unless_mixed.new.parts.items c.pass_unless_mixed.new.current)
    (sym (own_breaks (unless_mixed (g.H.Hyphenator.breaks_of c.args.dictionary.now)) piece same)))
    c.pass_unless_mixed.ensures
