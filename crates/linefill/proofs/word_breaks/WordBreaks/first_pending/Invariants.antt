use Rattle.std.proofs.Common.{◌≡◌, ◌-◌, length, All}
use Rattle.linefill.specs.Private.WordBreaks.{pending_breaks, remaining_pieces, places_after, FitsUsize}
use Rattle.linefill.proofs.word_breaks.WordBreaks.first_pending.Given as goal

-- Only breaks that are not after the place were passed.
abbrev pub invariant-loop-self : goal.invariant-loop-self
invariant-loop-self l = record {
  pending : places_after l.from (pending_breaks l.self) ≡ places_after l.from (pending_breaks l.initial.self);
  pieces : remaining_pieces l.self ≡ remaining_pieces l.initial.self;
  reached : l.self.reached ≡ l.initial.self.reached;
  fit_usize : All FitsUsize (pending_breaks l.self);
}

abbrev pub decreases-loop-self : goal.decreases-loop-self
decreases-loop-self l = length l.self.breaks.items - l.self.passed
