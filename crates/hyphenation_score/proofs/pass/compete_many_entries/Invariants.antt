use Rattle.std.proofs.Common.{◌≡◌, ◌-◌, length, take}
use Rattle.hyphenation_score.specs.Private.OnePass.{bearing, AreAfter}
use Rattle.hyphenation_score.proofs.pass.compete_many_entries.Given as goal

abbrev pub invariant-loop-entry : goal.invariant-loop-entry
invariant-loop-entry g l = record {
  len : length l.slots ≡ length l.fn.slots;
  met : AreAfter g.S.Slot.meaning g.S.Slot.after l.fn.slots (bearing (take l.entry-index l.entries) (l.end - l.depth)) l.slots;
}
