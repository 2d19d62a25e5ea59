use Rattle.std.proofs.Common.{sym, ap, ◌∙◌}
use Rattle.std.specs.Option.{option_map}
use Rattle.libhyphen_rule.specs.Found.{placed}
use Rattle.libhyphen_rule.specs.Parts.{part_text}
use Rattle.libhyphen_rule.proofs.WordsFound.{texts_none}
use Rattle.libhyphen_rule.proofs.parts.part_texts.Goals as goal

pub returns-in_ok-text-in-None : goal.returns-in_ok-text-in-None
returns-in_ok-text-in-None c =
    texts_none c.args.seen.now c.args.begin c.args.end c.in_ok-text-in-None.text.items c.new.result.items c.in_ok-text-in-None.ensures c.new.ensures.items
    ∙ sym (ap (λ o. part_text c.args.seen.now c.args.begin c.args.end (option_map placed o)) c.in-None.is)
