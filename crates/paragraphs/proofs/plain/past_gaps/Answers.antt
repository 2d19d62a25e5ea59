use Rattle.std.proofs.Common.{◌≡◌, true, get_or, rules, arith}
use Rattle.paragraphs.specs.Private.Plain.{is_ascii_gap}
use Rattle.paragraphs.proofs.PlainWords.{one_more}
use Rattle.paragraphs.proofs.plain.past_gaps.Goals as goal

pub bytes-preserved : goal.bytes-preserved
bytes-preserved c =
    let here : is_ascii_gap (get_or c.args.bytes.now c.bytes.at 0) ≡ true = search rules in
    (search (rules, arith), one_more is_ascii_gap c.args.bytes.now 0 c.bytes.at c.bytes.invariant.1 here)
