use Rattle.std.proofs.Common.{arith}
use Rattle.hyphenation_breaks.specs.Break.{is_boundary}
use Rattle.hyphenation_breaks.specs.Invariant.{stays_within}
use Rattle.hyphenation_dictionary.proofs.EntryTests.{entry_told, no_value}
use Rattle.hyphenation_dictionary.proofs.maker.is_entry.Goals as goal

pub returns-then-entry-eq0 : goal.returns-then-entry-eq0
returns-then-entry-eq0 g c = no_value c.args.entry.now.value (is_boundary c.args.key.now c.args.entry.now.place) (stays_within c.args.key.now c.args.entry.now.place (g.C.Payload.change_of c.args.entry.now.change)) c.if-entry-eq0.true

pub returns : goal.returns
returns g c =
    entry_told c.lies_in.result c.args.key.now c.args.entry.now.place c.args.entry.now.value (g.C.Payload.change_of c.args.entry.now.change) (omega arith) (omega arith) c.if-entry-eq0.false
    (rw c.as_change.ensures at c.lies_in.ensures)
