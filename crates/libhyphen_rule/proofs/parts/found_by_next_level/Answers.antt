use Rattle.libhyphen_rule.specs.Found.{asked_in, found_of, minima_of, placed_all}
use Rattle.libhyphen_rule.proofs.WordsFound.{next_level_whole}
use Rattle.libhyphen_rule.proofs.parts.found_by_next_level.Goals as goal

pub returns-clause-found : goal.returns-clause-found
returns-clause-found c =
    next_level_whole c.args.levels.dictionary.now (minima_of c.args.levels) c.args.first_level.parts (asked_in c.args.asked) (placed_all c.args.first_level.changes.items)
    (found_of c.in_ok-found.found) (found_of c.take_left_of_part.new.found) (found_of c.take_right_of_part.new.found)
    c.in_ok-found.ensures.found c.in_ok-take_left_of_part.ensures.found c.in_ok-take_right_of_part.ensures.found
