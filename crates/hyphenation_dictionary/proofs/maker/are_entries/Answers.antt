use Rattle.std.proofs.Common.{sym, ◌∙◌}
use Rattle.hyphenation_dictionary.proofs.EntryTests.{too_early, unsound, goes_on}
use Rattle.hyphenation_dictionary.proofs.maker.are_entries.Goals as goal

pub loop-entry-init : goal.loop-entry-init
loop-entry-init g c = sym (c.entries_in_order.ensures g.C.Payload.change_of c.args.key.now c.args.entries.now)

pub returns-then-place-least : goal.returns-then-place-least
returns-then-place-least g c =
    too_early g.C.Payload.change_of c.args.key.now c.loop-entry.least c.args.entries.now c.loop-entry.entry-index c.entry-item.result c.loop-entry-test.true c.entry-item.is _ c.if-place-least.true c.loop-entry.invariant

pub returns-then-not-is_entry : goal.returns-then-not-is_entry
returns-then-not-is_entry g c =
    unsound g.C.Payload.change_of c.args.key.now c.loop-entry.least c.args.entries.now c.loop-entry.entry-index c.entry-item.result c.loop-entry-test.true c.entry-item.is _ (sym c.is_entry.ensures ∙ c.if-not-is_entry.true) c.loop-entry.invariant

pub loop-entry-preserved : goal.loop-entry-preserved
loop-entry-preserved g c =
    goes_on g.C.Payload.change_of c.args.key.now c.loop-entry.least c.args.entries.now c.loop-entry.entry-index c.entry-item.result c.loop-entry-test.true c.entry-item.is _ c.if-place-least.false (sym c.is_entry.ensures ∙ c.if-not-is_entry.false) c.loop-entry.invariant
