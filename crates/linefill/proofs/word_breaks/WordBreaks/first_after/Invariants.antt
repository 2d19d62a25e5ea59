use Rattle.std.proofs.Common.{◌≡◌, ℕ, ◌<◌, length}
use Rattle.linefill.specs.Cuts.{is_one_of}
use Rattle.linefill.specs.Private.WordBreaks.{remaining_pieces, remaining_breaks, InOrder}
use Rattle.linefill.proofs.word_breaks.WordBreaks.first_after.Given as goal

-- The breaks after the place all stay.
abbrev pub invariant-loop-place : goal.invariant-loop-place
invariant-loop-place g l =
    let breaks_of = g.H.Hyphenator.breaks_of l.dictionary in
    record {
      order : InOrder breaks_of l.self;
      stay : (p : ℕ) → l.from < p → is_one_of p (remaining_breaks breaks_of l.self) ≡ is_one_of p (remaining_breaks breaks_of l.initial.self);
    }

abbrev pub decreases-loop-place : goal.decreases-loop-place
decreases-loop-place g l = length (remaining_pieces l.self)
