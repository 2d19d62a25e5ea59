use Rattle.std.proofs.Common.{ℕ, List, ◌+◌, ◌++◌, ◌∷◌, map, drop, sym, ap, subst, ◌∙◌}
use Rattle.std.proofs.lemmas.List.{drop_more, drop_all}
use Rattle.paragraphs.specs.Parts.{set_off}
use Rattle.paragraphs.specs.Private.Open.{settings_with, word_of}
use Rattle.word_pieces.specs.Pieces.{IsSlice}
use Rattle.paragraphs.proofs.ShiftedBreaks.{each_stands, lies_in}
use Rattle.paragraphs.proofs.word.pass_breaks.Goals as goal

pub pass_break-requires : goal.pass_break-requires
pass_break-requires g c =
    let meaning = g.B.Break.meaning in
    let piece : ℕ × List ℕ = (c.args.piece.0, c.args.piece.1.now) in
    let stands = each_stands meaning c.args.piece.1.now c.args.breaks.now 0 0 c.requires.fit c.loop-b.b-index c.b-item.result c.loop-b-test.true c.b-item.is in
    let slice = subst (λ w. IsSlice w.now.text.now piece) (sym c.loop-b.invariant.word) c.requires.slice in
    lies_in (word_of c.loop-b.current) piece (meaning c.b-item.result) slice stands

pub loop-b-preserved : goal.loop-b-preserved
loop-b-preserved g c =
    let meaning = g.B.Break.meaning in
    let items = c.args.breaks.now in
    let i = c.loop-b.b-index in
    let passed = c.in_ok-pass_break.ensures in
    let next = drop_more items i c.b-item.result c.loop-b-test.true ∙ ap (λ x. x ∷ drop (i + 1) items) (sym c.b-item.is) in
    record {
      word = passed.word ∙ c.loop-b.invariant.word;
      goes = λ others.
          passed.goes (map (set_off c.args.piece.0) (map meaning (drop (i + 1) items)) ++ others)
          ∙ ap (λ xs. settings_with c.loop-b.parts.items c.loop-b.current (map (set_off c.args.piece.0) (map meaning xs) ++ others)) (sym next)
          ∙ c.loop-b.invariant.goes others;
    }

pub returns : goal.returns
returns g c =
    let meaning = g.B.Break.meaning in
    let none = drop_all c.loop-b.b-index c.args.breaks.now c.loop-b-test.false in
    record {
      word = c.loop-b.invariant.word;
      goes = λ others.
          ap (λ xs. settings_with c.loop-b.parts.items c.loop-b.current (map (set_off c.args.piece.0) (map meaning xs) ++ others)) (sym none)
          ∙ c.loop-b.invariant.goes others;
    }
