use Rattle.std.proofs.Common.{ℕ, take, refl, subst, arith}
use Rattle.std.proofs.lemmas.List.{take_all}
use Rattle.libhyphen_rule.specs.Private.Lanes.{AtRow}
use Rattle.libhyphen_rule.proofs.PassedVectors.{first_at, step_on}
use Rattle.libhyphen_rule.proofs.plain_words.row_of.Goals as goal

pub loop-byte-init : goal.loop-byte-init
loop-byte-init c = first_at c.args.patterns.now c.args.vectors.now c.requires.vectors c.first_row-row.result c.first_row-row.ensures

pub step-row-requires : goal.step-row-requires
step-row-requires c = record { row = (_, _, c.loop-byte.invariant.stands) }

pub loop-byte-preserved : goal.loop-byte-preserved
loop-byte-preserved c =
    let vectors = c.args.vectors.now in
    let text = c.args.text.now in
    let index : ℕ = c.loop-byte.byte-index in
    let at = c.loop-byte.invariant in
    record {
      numbers = at.numbers;
      are_vectors = at.are_vectors;
      stands = (step_on c.args.patterns.now at.numbers vectors.steps text index _ _ _ (omega arith) refl
          (c.step-row.ensures at.numbers (take index text) at.stands)).stands;
    }

pub returns : goal.returns
returns c =
    subst (λ (read : _). AtRow c.args.patterns.now c.args.vectors.now read c.loop-byte.row)
    (take_all c.loop-byte.byte-index c.args.text.now (omega arith)) c.loop-byte.invariant
