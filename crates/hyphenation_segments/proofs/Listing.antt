-- Breaks may be listed exactly where each fits the word by itself.
use Rattle.std.proofs.Common.{◌≡◌, ℕ, ◌+◌, ◌-◌, ◌<◌, ◌^◌, ◌&&◌, true, nat_le, le-leb, List, [], ◌∷◌, length, map, Option, Some, None, refl, sym, subst, arith, add-zero, IsCharBoundary}
use Rattle.std.proofs.Math.Nat.{sub-zero}
use Rattle.std.proofs.lemmas.Bool.{and_parts, leb-true, lt-ltb, and_from}
use Rattle.hyphenation_breaks.specs.Break.{Break, Change, break_at, is_boundary, has_boundary, keeps_within}
use Rattle.hyphenation_breaks.specs.Invariant.{fits_usize, can_be_written, can_be_written_if_any, lists_within, stays_within}
use Rattle.hyphenation_breaks.specs.Laws.{listed_from, BoundaryIsOfChars}
use Rattle.hyphenation_segments.specs.Fits.{BreakFitsAfter}
use Rattle.hyphenation_segments.specs.Laws.{MayBeListed, MeetInvariant}

-- A break whose tests pass fits the word.
tested : BoundaryIsOfChars → (word : List ℕ) (least place : ℕ) (change : Option Change) → nat_le least place ≡ true → is_boundary word place ≡ true → lists_within word place change ≡ true → BreakFitsAfter word 0 least (break_at place change)
tested chars word least place None ascends at within =
    let here : IsCharBoundary word place = (chars word place).0 at in
    record {
      ascends = leb-true least place ascends;
      within = omega arith;
      apart = omega arith;
      place = here;
      begin = subst (λ (n : ℕ). IsCharBoundary word n) (sym (sub-zero place)) here;
      end = subst (λ (n : ℕ). IsCharBoundary word n) (sym (add-zero place)) here;
    }
tested chars word least place (Some change) ascends at within =
    let stays = (and_parts (fits_usize place) (stays_within word place (Some change)) within).1 in
    let keeps = (and_parts (fits_usize place && can_be_written change) (keeps_within word place change) stays).1 in
    let low = nat_le change.left place in
    let begin = is_boundary word (place - change.left) in
    let end = is_boundary word (place + change.right) in
    let ends = (and_parts (low && begin && end) (is_boundary change.substitution change.breakpoint) keeps).0 in
    let fronts = and_parts (low && begin) end ends in
    let lows = and_parts low begin fronts.0 in
    record {
      ascends = leb-true least place ascends;
      within = leb-true change.left place lows.0;
      apart = omega arith;
      place = (chars word place).0 at;
      begin = (chars word (place - change.left)).0 lows.1;
      end = (chars word (place + change.right)).0 fronts.1;
    }

-- A break that fits the word passes the tests, where its change has the properties of its type.
passes : BoundaryIsOfChars → (word : List ℕ) (least place : ℕ) (change : Option Change) → length word < 2 ^ 64 → has_boundary change ≡ true → can_be_written_if_any change ≡ true → BreakFitsAfter word 0 least (break_at place change) → lists_within word place change ≡ true
passes chars word least place None size kept said s = and_from (fits_usize place) true (lt-ltb place (2 ^ 64) (omega (arith, s.place.0))) refl
passes chars word least place (Some change) size kept said s =
    let small : fits_usize place ≡ true = lt-ltb place (2 ^ 64) (omega (arith, s.place.0)) in
    let low : nat_le change.left place ≡ true = le-leb change.left place s.within in
    let begin : is_boundary word (place - change.left) ≡ true = (chars word (place - change.left)).1 s.begin in
    let end : is_boundary word (place + change.right) ≡ true = (chars word (place + change.right)).1 s.end in
    let keeps : keeps_within word place change ≡ true = and_from _ _ (and_from _ _ (and_from _ _ low begin) end) kept in
    and_from (fits_usize place) (stays_within word place (Some change)) small (and_from _ _ (and_from _ _ small said) keeps)

pub by_rule : {B : Type 0} (break_of : B → Break) → BoundaryIsOfChars → (word : List ℕ) (least : ℕ) (listed : List B) → listed_from break_of word least listed ≡ true → MayBeListed word least (map break_of listed)
by_rule break_of chars word least [] h = tt
by_rule break_of chars word least (x ∷ xs) h =
    let b = break_of x in
    let lies = nat_le least b.place && is_boundary word b.place in
    let within = lists_within word b.place b.change in
    let all = and_parts (lies && within) (listed_from break_of word (b.place + 1) xs) h in
    let one = and_parts lies within all.0 in
    let at = and_parts (nat_le least b.place) (is_boundary word b.place) one.0 in
    (tested chars word least b.place b.change at.0 at.1 one.1, by_rule break_of chars word (b.place + 1) xs all.1)

pub from_rule : {B : Type 0} (break_of : B → Break) → BoundaryIsOfChars → (word : List ℕ) (least : ℕ) (listed : List B) → length word < 2 ^ 64 → MeetInvariant (map break_of listed) → MayBeListed word least (map break_of listed) → listed_from break_of word least listed ≡ true
from_rule break_of chars word least [] size kept h = refl
from_rule break_of chars word least (x ∷ xs) size kept h =
    let b = break_of x in
    let at : (nat_le least b.place && is_boundary word b.place) ≡ true = and_from _ _ (le-leb least b.place h.0.ascends) ((chars word b.place).1 h.0.place) in
    let within : lists_within word b.place b.change ≡ true = passes chars word least b.place b.change size kept.0 kept.1 h.0 in
    and_from _ _ (and_from _ _ at within) (from_rule break_of chars word (b.place + 1) xs size kept.2 h.1)
