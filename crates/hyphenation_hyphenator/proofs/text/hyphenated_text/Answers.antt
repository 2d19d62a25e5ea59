use Rattle.std.proofs.Common.{arith, refl, ap, ◌∙◌, ◌++◌, map}
use Rattle.std.specs.String.{string_bytes}
use Rattle.std.proofs.lemmas.Grind.{common_steps}
use Rattle.hyphenation_hyphenator.proofs.PassedText.{at_first, start_boundary, at_boundary, passes_piece, appends_piece}
use Rattle.hyphenation_hyphenator.proofs.text.hyphenated_text.Goals as goal

pub loop-piece-init : goal.loop-piece-init
loop-piece-init g c = at_first c.pieces_are_slices.ensures.slices c.pieces_are_slices.ensures.join c.utf8.text (grind (arith, common_steps)) (grind (arith, common_steps))

pub range-requires-clause-start_boundary : goal.range-requires-clause-start_boundary
range-requires-clause-start_boundary g c = λ _. start_boundary c.loop-piece.invariant

pub range-requires-clause-end_boundary : goal.range-requires-clause-end_boundary
range-requires-clause-end_boundary g c = at_boundary c.loop-piece.invariant

pub loop-piece-preserved-in_ok-push_marked_text : goal.loop-piece-preserved-in_ok-push_marked_text
loop-piece-preserved-in_ok-push_marked_text g c =
    appends_piece c.args.mark.now (g.H.Hyphenator.breaks_of c.args.dictionary.now) c.in-Some.ensures.steps refl
    (ap (map g.H.Opportunity.Break.meaning) c.deref.ensures.value ∙ c.in_ok-breaks_into.ensures.breaks)
    (c.in_ok-push_str.ensures.bytes ∙ ap (λ x. string_bytes c.loop-piece.output ++ x) c.range.ensures.value)
    c.in_ok-push_marked_text.ensures.adds c.loop-piece.invariant

pub loop-piece-preserved : goal.loop-piece-preserved
loop-piece-preserved g c =
    passes_piece c.args.mark.now (g.H.Hyphenator.breaks_of c.args.dictionary.now) c.in-Some.ensures.steps refl
    (grind (arith, common_steps)) c.loop-piece.invariant

pub range_from-requires : goal.range_from-requires
range_from-requires g c = λ _. start_boundary c.loop-piece.invariant
