use Rattle.std.proofs.Common.{ℕ, ◌-◌, ◌<◌, ◌≤◌, IsTrue, slice_index}
use Rattle.std.specs.Char.{is_ascii_alphabetic}
use Rattle.word_pieces.proofs.rules.past_ascii_letters.Given as goal

abbrev pub invariant-letters : goal.invariant-letters
invariant-letters l =
    (l.from ≤ l.at) × (l.at ≤ l.limit) × ((k : ℕ) → l.from ≤ k → k < l.at → IsTrue (is_ascii_alphabetic (slice_index l.bytes k)))

abbrev pub decreases-letters : goal.decreases-letters
decreases-letters l = l.limit - l.at
