use Rattle.std.proofs.Common.{◌≡◌, true, get_or, rules, arith}
use Rattle.std.specs.Char.{is_ascii_alphabetic}
use Rattle.paragraphs.proofs.PlainWords.{one_more}
use Rattle.paragraphs.proofs.plain.past_letters.Goals as goal

pub bytes-preserved : goal.bytes-preserved
bytes-preserved c =
    let here : is_ascii_alphabetic (get_or c.args.place.bytes.now c.bytes.at 0) ≡ true = search rules in
    (search (rules, arith), search (rules, arith), one_more is_ascii_alphabetic c.args.place.bytes.now c.args.place.at c.bytes.at c.bytes.invariant.2 here)
