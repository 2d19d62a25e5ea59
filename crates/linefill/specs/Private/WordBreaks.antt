-- The breaks of a text's words that are to come.
use Rattle.std.specs.Prelude.{◌≡◌, ℕ, ◌+◌, ◌<◌, ◌≤◌, ◌^◌, nat_lt, false, IsTrue, List, [], ◌∷◌, ◌++◌, length, map, drop, Option, Some, None, MatchOption, if◌then◌else◌}
use Rattle.std.specs.Borrow.{Bor}
use Rattle.std.specs.List.{flat_map}
use Rattle.hyphenation_breaks.specs.Break.{Break}
use Rattle.word_pieces.specs.Pieces.{piece_indices_left}
use Rattle.linefill.specs.Cuts.{is_one_of, breaks_in, word_breaks}
use Rattle.linefill.specs.declared.word_breaks.WordBreaks.{WordBreaks}

-- The pieces that were not taken.
abbrev pub remaining_pieces : WordBreaks → List (ℕ × List ℕ)
remaining_pieces b = piece_indices_left b.pieces

-- The next piece, if there is one, and the pieces after it.
abbrev pub with_next_piece : Option (ℕ × Bor (List ℕ)) → List (ℕ × List ℕ) → List (ℕ × List ℕ)
with_next_piece None others = others
with_next_piece (Some x) others = (x.0, x.1.now) ∷ others

-- The pending breaks: those of the piece that was broken last that were not passed.
abbrev pub pending_breaks : WordBreaks → List ℕ
pending_breaks b = map (λ p. b.offset + p) (drop b.passed b.breaks.items)

-- All breaks that were not passed.
abbrev pub remaining_breaks : (List ℕ → List Break) → WordBreaks → List ℕ
remaining_breaks breaks_of b = pending_breaks b ++ flat_map (breaks_in breaks_of) (remaining_pieces b)

-- The places from the first one on that is after `from`.
abbrev pub places_after : ℕ → List ℕ → List ℕ
places_after from [] = []
places_after from (p ∷ ps) = if nat_lt from p then p ∷ ps else places_after from ps

-- The first of some places, if there is one.
abbrev pub first_place : List ℕ → Option ℕ
first_place [] = None
first_place (p ∷ ps) = Some p

-- Places between two others that never descend.
abbrev pub RiseBetween : ℕ → ℕ → List ℕ → Type 0
RiseBetween from to [] = from ≤ to
RiseBetween from to (p ∷ ps) = (from ≤ p) × RiseBetween p to ps

-- Pieces one after another between two places, each with its breaks in it.
abbrev pub FollowBetween : (List ℕ → List Break) → ℕ → ℕ → List (ℕ × List ℕ) → Type 0
FollowBetween breaks_of from to [] = from ≤ to
FollowBetween breaks_of from to (x ∷ xs) =
    (from ≤ x.0) × RiseBetween x.0 (x.0 + length x.1) (breaks_in breaks_of x) × FollowBetween breaks_of (x.0 + length x.1) to xs

-- A place that a `usize` holds.
abbrev pub FitsUsize : ℕ → Type 0
FitsUsize place = place < 2 ^ 64

-- The breaks to come never descend, and the pieces lie after the pending breaks.
pub record InOrder (breaks_of : List ℕ → List Break) (b : WordBreaks) : Type 0 where
  pub end : ℕ
  pub end_fits_usize : FitsUsize end
  pub pending : RiseBetween 0 b.reached (pending_breaks b)
  pub pieces : FollowBetween breaks_of b.reached end (remaining_pieces b)

-- None of the places is after `from` and before `until`.
abbrev pub NoneWithin : List ℕ → ℕ → ℕ → Type 0
NoneWithin places from until = (p : ℕ) → from < p → p < until → is_one_of p places ≡ false

-- The place is the first of the places that is after `from`.
pub record IsFirstAfter (places : List ℕ) (from place : ℕ) : Type 0 where
  pub after : from < place
  pub among : IsTrue (is_one_of place places)
  pub first : NoneWithin places from place

-- The result of a search for the first of the places that is after `from`: one of them, or none before `until`.
abbrev pub FindsFirstAfter : List ℕ → ℕ → ℕ → Option ℕ → Type 0
FindsFirstAfter places from until first = MatchOption first (NoneWithin places from until) (IsFirstAfter places from)

-- The breaks to come after a place stay the same.
abbrev pub KeepsBreaksAfter : (List ℕ → List Break) → ℕ → WordBreaks → WordBreaks → Type 0
KeepsBreaksAfter breaks_of from old new =
    (p : ℕ) → from < p → is_one_of p (remaining_breaks breaks_of new) ≡ is_one_of p (remaining_breaks breaks_of old)

-- The breaks to come are in order, and after a place they are the breaks of a text's words.
pub record HasBreaksAfter (breaks_of : List ℕ → List Break) (text : List ℕ) (from : ℕ) (b : WordBreaks) : Type 0 where
  pub order : InOrder breaks_of b
  pub stay : (p : ℕ) → from < p → is_one_of p (remaining_breaks breaks_of b) ≡ is_one_of p (word_breaks breaks_of text)
