use Rattle.libhyphen_rule.specs.Private.Pass.{value_of}
use Rattle.libhyphen_rule.proofs.TakenCells.{takes_low, takes_even, takes_odd}
use Rattle.libhyphen_rule.proofs.cells.take_offer.Goals as goal

pub returns-then-digit-eq1 : goal.returns-then-digit-eq1
returns-then-digit-eq1 c =
    takes_odd c.args.cells.now c.args.place c.args.digit c.index-cells-place.result c.requires.place
    c.raise.new.cells c.note_change.new.cells c.note_region.new.cells c.args.change c.args.begin
    c.raise.auto.cells c.note_change.auto.cells c.note_region.auto.cells c.raise.ensures c.note_change.ensures c.note_region.ensures
    c.if-cells-place.true c.if-digit-eq1.true

pub returns-else-digit-eq1 : goal.returns-else-digit-eq1
returns-else-digit-eq1 c =
    takes_even c.args.cells.now c.args.place c.args.digit c.index-cells-place.result c.requires.place
    c.raise.new.cells (value_of c.args.change) c.args.begin c.raise.auto.cells c.raise.ensures c.if-cells-place.true c.if-digit-eq1.false

pub returns-else-cells-place : goal.returns-else-cells-place
returns-else-cells-place c =
    takes_low c.args.cells.now c.args.place c.args.digit c.index-cells-place.result c.requires.place
    (value_of c.args.change) c.args.begin c.if-cells-place.false
