use Rattle.std.proofs.Common.{◌∙◌}
use Rattle.libhyphen_rule.specs.Found.{asked_in, minima_of}
use Rattle.libhyphen_rule.proofs.PlainCompounds.{whole_by_next_level}
use Rattle.libhyphen_rule.proofs.plain_compounds.plain_by_next_level.Goals as goal

pub returns-clause-found : goal.returns-clause-found
returns-clause-found c = λ _ parts.
    whole_by_next_level c.args.levels.dictionary.now (minima_of c.args.levels) parts (asked_in c.args.asked) c.read_plain_word.new.digits c.take_left_end.new.digits c.take_right_end.new.digits c.next_level.result.now
    c.next_level.ensures (c.read_plain_word.ensures.digits_length ∙ c.requires.digits)
    c.in-Some.ensures.digits c.in-Some.ensures.changes
    (c.take_left_end.ensures.digits parts) (c.take_right_end.ensures.digits parts)
