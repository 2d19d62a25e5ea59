use Rattle.std.proofs.Common.{◌≡◌, ◌++◌, drop, map}
use Rattle.hyphenation_writer.specs.Canonical.{changes_of, entry_as_spelt, later_tokens}
use Rattle.hyphenation_writer.proofs.writer.push_changes.Given as goal

abbrev pub invariant-loop-entry : goal.invariant-loop-entry
invariant-loop-entry g l =
    l.text.items ++ later_tokens (changes_of (map (entry_as_spelt g.C.Payload.change_of) (drop l.entry-index l.entries)))
    ≡ l.initial.text.items ++ later_tokens (changes_of (map (entry_as_spelt g.C.Payload.change_of) l.entries))
