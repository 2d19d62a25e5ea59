use Rattle.std.proofs.Common.{length, refl, true, w32, to_z, of_z}
use Rattle.std.proofs.lemmas.Int.{to_z-of_z}
use Rattle.libhyphen_rule.specs.Parts.{Asked, PartMinima, most_depth}
use Rattle.libhyphen_rule.proofs.PlainCompounds.{next_level_alone_plain, finds_plain, word_plain_is}
use Rattle.libhyphen_rule.proofs.plain_compounds.read_word.Goals as goal

pub returns-then-not-counts-clause-found : goal.returns-then-not-counts-clause-found
returns-then-not-counts-clause-found c done =
    let word = c.args.word.now in
    let digits = c.plain_by_next_level.new.digits in
    let asked : Asked = record { text = word; behind = c.args.behind.now; at_left = true; at_right = true } in
    let minima : PartMinima = record { left = to_z w32 (of_z w32 c.args.left); right = to_z w32 (of_z w32 c.args.right) } in
    word_plain_is c.args.dictionary.now _ _ _ _ word c.args.behind.now digits
    (to_z-of_z w32 c.args.left c.ranges.left) (to_z-of_z w32 c.args.right c.ranges.right)
    (finds_plain _ digits (length word)
    (next_level_alone_plain c.args.dictionary.now minima most_depth (length word) asked digits c.args.dictionary.now.first_level
    refl c.requires.word (c.requires.none c.if-not-counts.true)
    (c.plain_by_next_level.ensures.found done (length word))))
