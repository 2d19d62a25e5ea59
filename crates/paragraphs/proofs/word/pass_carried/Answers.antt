use Rattle.std.proofs.Common.{map, sym, ap, subst, ◌∙◌, IsTrue}
use Rattle.std.proofs.lemmas.Result.{on_ok_weaker}
use Rattle.composed_words.specs.Composed.{carried}
use Rattle.hyphenation_breaks.specs.Break.{ascend_on, plain_break}
use Rattle.text_words.specs.Words.{unless_mixed}
use Rattle.paragraphs.specs.Parts.{set_off}
use Rattle.paragraphs.specs.Private.Open.{Passes}
use Rattle.paragraphs.proofs.OnePiece.{carried_breaks}
use Rattle.paragraphs.proofs.word.pass_carried.Goals as goal

pub pass_breaks-requires-clause-fit : goal.pass_breaks-requires-clause-fit
pass_breaks-requires-clause-fit g c =
    let piece = c.args.piece.1.now in
    (c.plain_breaks_fit_where_ascending.ensures piece c.deref-2.result.now).1
    (subst (λ places. IsTrue (ascend_on piece 0 places)) (sym (c.deref-2.ensures.value ∙ c.in_ok-carried.ensures)) (c.carried_places_ascend.ensures piece c.deref.result.now))

pub returns : goal.returns
returns g c =
    let piece = c.args.piece.1.now in
    let breaks_of = unless_mixed (g.H.Hyphenator.breaks_of c.args.dictionary.now) in
    on_ok_weaker c.pass_breaks.result
    (subst (λ bs. Passes (map (set_off c.args.piece.0) bs) c.args.parts.now.items c.args.current.now c.pass_breaks.new.parts.items c.pass_breaks.new.current)
    (ap (map plain_break) (c.deref-2.ensures.value ∙ c.in_ok-carried.ensures ∙ ap (carried piece) (c.deref.ensures.value ∙ c.in_ok-places.ensures))
    ∙ carried_breaks breaks_of piece c.args.nfc.now c.requires.other c.requires.nfc))
    c.pass_breaks.ensures
