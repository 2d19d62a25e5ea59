use Rattle.std.proofs.Common.{arith, take}
use Rattle.libhyphen_rule.proofs.OrdinaryWords.{ordinary_digits, ordinary_kept, ordinary_seen, ordinary_word}
use Rattle.libhyphen_rule.proofs.calls.find_short.Goals as goal

pub seen_text-requires-clause-ordinary : goal.seen_text-requires-clause-ordinary
seen_text-requires-clause-ordinary c is =
    let rules_now = c.args.dictionary.now in
    let text = c.args.text.now in
    let all = c.look_at-looked.ensures.ordinary is in
    (ordinary_digits rules_now (take c.args.size text) (ordinary_word rules_now text c.args.size c.requires.within all), ordinary_seen rules_now text all)

pub returns-clause-apart : goal.returns-clause-apart
returns-clause-apart c is =
    ordinary_kept c.args.dictionary.now c.args.minima c.args.text.now c.put_digits_by_call.new.digits (c.look_at-looked.ensures.ordinary is)
    (omega (arith, c.put_digits_by_call.ensures.digits, c.requires.within))
