use Rattle.std.proofs.Common.{◌≡◌, drop}
use Rattle.hyphenation_breaks.specs.Invariant.{are_entries}
use Rattle.hyphenation_breaks.specs.Laws.{entries_from}
use Rattle.hyphenation_dictionary.proofs.maker.are_entries.Given as goal

abbrev pub invariant-loop-entry : goal.invariant-loop-entry
invariant-loop-entry g l = entries_from g.C.Payload.change_of l.key l.least (drop l.entry-index l.entries) ≡ are_entries g.C.Payload.change_of l.key l.entries
