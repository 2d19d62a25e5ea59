use Rattle.std.proofs.Common.{length, ap, arith, rules}
use Rattle.unicode_segmentation.proofs.SegmentsLemmas.{nil_from-with_offsets, cons_from-with_offsets}
use Rattle.word_pieces.proofs.pieces.WordPiecesIterator.next.Goals as goal

pub returns-in-Some-clause-steps : goal.returns-in-Some-clause-steps
returns-in-Some-clause-steps c = cons_from-with_offsets _ _ _ _ _ c.in-Some.ensures

pub returns-in-Some-clause-goes : goal.returns-in-Some-clause-goes
returns-in-Some-clause-goes c =
    let shorter = ap length (cons_from-with_offsets _ _ _ _ _ c.in-Some.ensures) in
    search (rules, arith)

pub returns-in-None-clause-steps : goal.returns-in-None-clause-steps
returns-in-None-clause-steps c =
    (nil_from-with_offsets _ _ c.in-None.ensures.0, nil_from-with_offsets _ _ c.in-None.ensures.1)
