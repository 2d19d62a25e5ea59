use Rattle.std.proofs.Common.{refl, ◌∙◌, arith, []}
use Rattle.std.proofs.lemmas.List.{get_or-replicate, length-set}
use Rattle.libhyphen_rule.specs.Counting.{framed}
use Rattle.libhyphen_rule.proofs.PassedVectors.{first_at}
use Rattle.libhyphen_rule.proofs.RaisedDigits.{length-framed}
use Rattle.libhyphen_rule.proofs.PlainWords.{frame_byte, none_passed, read_whole}
use Rattle.libhyphen_rule.proofs.plain_words.read_whole.Goals as goal

pub loop-at-init : goal.loop-at-init
loop-at-init c =
    let tree = c.args.patterns.now in
    let frame = framed c.args.word.now in
    record {
      len = c.passed_byte-pass.ensures.room ∙ length-set c.args.list.now _ _;
      passed = c.passed_byte-pass.ensures.passed frame (omega (arith, length-framed c.args.word.now)) refl
          (none_passed tree c.args.vectors.now frame _ _ (first_at tree c.args.vectors.now c.requires.vectors c.first_row.result c.first_row.ensures) refl refl (λ lane lt. get_or-replicate 16 lane 0 0 lt));
    }

pub passed_byte-pass-requires-in-loop-at-clause-row : goal.passed_byte-pass-requires-in-loop-at-clause-row
passed_byte-pass-requires-in-loop-at-clause-row c = (_, c.loop-at.invariant.passed.at_row)

pub passed_byte-pass-requires-in-loop-at-clause-lanes : goal.passed_byte-pass-requires-in-loop-at-clause-lanes
passed_byte-pass-requires-in-loop-at-clause-lanes c = (c.loop-at.invariant.passed.lanes, c.loop-at.invariant.passed.seen_lanes)

pub loop-at-preserved : goal.loop-at-preserved
loop-at-preserved c =
    let word = c.args.word.now in
    record {
      len = c.passed_byte-pass-in-loop-at.ensures.room ∙ c.loop-at.invariant.len;
      passed = c.passed_byte-pass-in-loop-at.ensures.passed (framed word) (omega (arith, length-framed word)) (frame_byte word c.requires.word c.loop-at.at (omega arith)) c.loop-at.invariant.passed;
    }

pub passed_byte-requires-clause-row : goal.passed_byte-requires-clause-row
passed_byte-requires-clause-row c = (_, c.loop-at.invariant.passed.at_row)

pub passed_byte-requires-clause-lanes : goal.passed_byte-requires-clause-lanes
passed_byte-requires-clause-lanes c = (c.loop-at.invariant.passed.lanes, c.loop-at.invariant.passed.seen_lanes)

pub returns-clause-read : goal.returns-clause-read
returns-clause-read c =
    read_whole c.args.patterns.now c.args.vectors.now c.args.word.now c.loop-at.at c.loop-at.pass c.passed_byte.result c.loop-at.list c.passed_byte.new.list
    c.requires.word (omega arith) c.loop-at.invariant.passed c.passed_byte.ensures.passed

pub passed_byte-pass-requires-clause-row : goal.passed_byte-pass-requires-clause-row
passed_byte-pass-requires-clause-row c = ([], first_at c.args.patterns.now c.args.vectors.now c.requires.vectors c.first_row.result c.first_row.ensures)
