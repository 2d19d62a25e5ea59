use Rattle.std.proofs.Common.{◌≡◌, ◌++◌, drop, map}
use Rattle.std.specs.Prelude.{flat_map}
use Rattle.hyphenation_writer.specs.Canonical.{element_spelling, elements_for, pattern_token, entry_as_spelt}
use Rattle.hyphenation_writer.proofs.writer.push_key.Given as goal

abbrev pub invariant-loop-at : goal.invariant-loop-at
invariant-loop-at g l =
    l.text.items ++ flat_map (element_spelling l.version) (elements_for l.at (drop l.at l.key) (map (entry_as_spelt g.C.Payload.change_of) l.rest))
    ≡ l.initial.text.items ++ pattern_token l.version l.key (map (entry_as_spelt g.C.Payload.change_of) l.fn.entries)
