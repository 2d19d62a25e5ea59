use Rattle.libhyphen_rule.specs.Private.Pass.{value_of}
use Rattle.libhyphen_rule.proofs.TakenCells.{takes_pattern}
use Rattle.libhyphen_rule.proofs.cells.take_pattern.Goals as goal

pub returns : goal.returns
returns c =
    takes_pattern c.args.cells.now c.take_offers.new.cells c.note_cut.new.cells c.args.start c.args.first c.args.digits.now (value_of c.args.change)
    c.region_begin-begin.result c.take_offers.auto.cells c.note_cut.auto.cells c.region_begin-begin.ensures c.take_offers.ensures c.note_cut.ensures
