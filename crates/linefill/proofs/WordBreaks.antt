-- The breaks to come of a text's words.
use Rattle.std.proofs.Common.{◌≡◌, ℕ, ◌+◌, ◌<◌, ◌≤◌, ◌||◌, ◌==◌, nat_lt, true, false, cond, List, [], ◌∷◌, ◌++◌, length, Some, None, refl, sym, ap, subst, ◌∙◌, arith, inl, inr}
use Rattle.std.specs.List.{flat_map, All}
use Rattle.std.proofs.lemmas.Bool.{cases_lt, or_cases, or_left, false≢true, false_from_ne_true, eqb-true, eq-eqb, ne_eqb, lt-ltb, le-ltb, cond-true, cond-false}
use Rattle.std.proofs.lemmas.List.Elements.{All-nil, All-cons, All-head, All-tail}
use Rattle.std.proofs.lemmas.List.Folds.{list_any-append}
use Rattle.std.proofs.lemmas.Option.{none-some}
use Rattle.hyphenation_breaks.specs.Break.{Break}
use Rattle.word_pieces.specs.Pieces.{EndsBy, PassesBefore}
use Rattle.linefill.specs.Cuts.{is_one_of, breaks_in}
use Rattle.linefill.specs.Private.WordBreaks.{pending_breaks, remaining_pieces, remaining_breaks, places_after, first_place, RiseBetween, FollowBetween, FitsUsize, InOrder, NoneWithin, IsFirstAfter}
use Rattle.linefill.specs.declared.word_breaks.WordBreaks.{WordBreaks}

some_same : (a b : ℕ) → Some a ≡ Some b → a ≡ b
some_same a b e = ap (λ o. elim o [ None ↦ 0 | Some x ↦ x ]) e

-- ---- places that never descend

pub rise_order : (from to : ℕ) (ps : List ℕ) → RiseBetween from to ps → from ≤ to
rise_order from to [] h = h
rise_order from to (p ∷ ps) h = omega (arith, h.0, rise_order p to ps h.1)

pub in_rise : (from to p : ℕ) (ps : List ℕ) → RiseBetween from to ps → is_one_of p ps ≡ true → (from ≤ p) × (p ≤ to)
in_rise from to p [] h i = absurd (false≢true i)
in_rise from to p (q ∷ qs) h i =
    elim (or_cases (p == q) (is_one_of p qs) i) [
      | inl same ↦ let e : p ≡ q = eqb-true p q same in (omega (arith, h.0, e), omega (arith, e, rise_order q to qs h.1))
      | inr later ↦ let r = in_rise q to p qs h.1 later in (omega (arith, h.0, r.0), r.1)
    ]

pub rise_from : (a b to : ℕ) (ps : List ℕ) → a ≤ b → RiseBetween b to ps → RiseBetween a to ps
rise_from a b to [] le h = omega (arith, h)
rise_from a b to (p ∷ ps) le h = (omega (arith, h.0), h.1)

pub rise_left : (from a to : ℕ) (ps : List ℕ) → RiseBetween a to ps → RiseBetween a to (places_after from ps)
rise_left from a to [] h = h
rise_left from a to (p ∷ ps) h =
    elim (nat_lt from p) as (λ b. RiseBetween a to (cond b (p ∷ ps) (places_after from ps))) [ true ↦ h | false ↦ rise_left from a to ps (rise_from a p to ps h.0 h.1) ]

pub all_fit_usize : (from to : ℕ) (ps : List ℕ) → FitsUsize to → RiseBetween from to ps → All FitsUsize ps
all_fit_usize from to [] end_fits_usize h = All-nil FitsUsize
all_fit_usize from to (p ∷ ps) end_fits_usize h = All-cons FitsUsize p ps (omega (arith, end_fits_usize, rise_order p to ps h.1)) (all_fit_usize p to ps end_fits_usize h.1)

-- ---- places after a place

-- Exactly the places that are not after it are passed.
pub left_same : (from p : ℕ) (ps : List ℕ) → from < p → is_one_of p (places_after from ps) ≡ is_one_of p ps
left_same from p [] lt = refl
left_same from p (q ∷ qs) lt =
    elim (cases_lt from q) [
      | inl ahead ↦ ap (is_one_of p) (cond-true (nat_lt from q) _ _ (lt-ltb from q ahead))
      | inr past ↦ ap (is_one_of p) (cond-false (nat_lt from q) _ _ (le-ltb from q past)) ∙ left_same from p qs lt
          ∙ sym (ap (λ b. b || is_one_of p qs) (ne_eqb p q (λ e. omega arith)))
    ]

-- The first place that is left is after it.
pub head_after : (from place : ℕ) (ps : List ℕ) → first_place (places_after from ps) ≡ Some place → from < place
head_after from place [] e = absurd (none-some place e)
head_after from place (q ∷ qs) e =
    elim (cases_lt from q) [
      | inl ahead ↦
          let same : Some q ≡ Some place = sym (ap first_place (cond-true (nat_lt from q) _ _ (lt-ltb from q ahead))) ∙ e in
          omega (arith, some_same q place same)
      | inr past ↦ head_after from place qs (sym (ap first_place (cond-false (nat_lt from q) _ _ (le-ltb from q past))) ∙ e)
    ]

-- ---- pieces one after another

pub follow_order : (breaks_of : List ℕ → List Break) (from to : ℕ) (xs : List (ℕ × List ℕ)) → FollowBetween breaks_of from to xs → from ≤ to
follow_order breaks_of from to [] h = h
follow_order breaks_of from to (x ∷ xs) h = omega (arith, h.0, follow_order breaks_of (x.0 + length x.1) to xs h.2)

follow_from : (breaks_of : List ℕ → List Break) (a b to : ℕ) (xs : List (ℕ × List ℕ)) → a ≤ b → FollowBetween breaks_of b to xs → FollowBetween breaks_of a to xs
follow_from breaks_of a b to [] le h = omega (arith, h)
follow_from breaks_of a b to (x ∷ xs) le h = (omega (arith, h.0), h.1, h.2)

pub in_follow : (breaks_of : List ℕ → List Break) (from to p : ℕ) (xs : List (ℕ × List ℕ)) → FollowBetween breaks_of from to xs → is_one_of p (flat_map (breaks_in breaks_of) xs) ≡ true → from ≤ p
in_follow breaks_of from to p [] h i = absurd (false≢true i)
in_follow breaks_of from to p (x ∷ xs) h i =
    let here = breaks_in breaks_of x in
    let rest = flat_map (breaks_in breaks_of) xs in
    elim (or_cases (is_one_of p here) (is_one_of p rest) (sym (list_any-append (λ b. p == b) here rest) ∙ i)) [
      | inl first ↦ omega (arith, h.0, (in_rise x.0 (x.0 + length x.1) p here h.1 first).0)
      | inr later ↦ omega (arith, h.0, in_follow breaks_of (x.0 + length x.1) to p xs h.2 later)
    ]

-- A piece that ends before a place has no break after it.
pub piece_passed : (breaks_of : List ℕ → List Break) (x : ℕ × List ℕ) (xs : List (ℕ × List ℕ)) (from p : ℕ) → RiseBetween x.0 (x.0 + length x.1) (breaks_in breaks_of x) → x.0 + length x.1 ≤ from → from < p
    → is_one_of p (flat_map (breaks_in breaks_of) xs) ≡ is_one_of p (flat_map (breaks_in breaks_of) (x ∷ xs))
piece_passed breaks_of x xs from p h ends lt =
    let here = breaks_in breaks_of x in
    let rest = flat_map (breaks_in breaks_of) xs in
    let none : is_one_of p here ≡ false = false_from_ne_true (is_one_of p here) (λ i. omega (arith, (in_rise x.0 (x.0 + length x.1) p here h i).1)) in
    sym (list_any-append (λ b. p == b) here rest ∙ ap (λ b. b || is_one_of p rest) none)

-- First pieces are left out.
follow_without : (breaks_of : List ℕ → List Break) (from to : ℕ) (passed xs : List (ℕ × List ℕ)) → FollowBetween breaks_of from to (passed ++ xs) → FollowBetween breaks_of from to xs
follow_without breaks_of from to [] xs h = h
follow_without breaks_of from to (x ∷ passed) xs h = follow_from breaks_of from (x.0 + length x.1) to xs (omega (arith, h.0)) (follow_without breaks_of (x.0 + length x.1) to passed xs h.2)

-- First pieces that end before a place have no break after it.
pieces_passed : (breaks_of : List ℕ → List Break) (at to : ℕ) (passed xs : List (ℕ × List ℕ)) (from p : ℕ) → FollowBetween breaks_of at to (passed ++ xs) → All (EndsBy from) passed → from < p
    → is_one_of p (flat_map (breaks_in breaks_of) xs) ≡ is_one_of p (flat_map (breaks_in breaks_of) (passed ++ xs))
pieces_passed breaks_of at to [] xs from p h ends lt = refl
pieces_passed breaks_of at to (x ∷ passed) xs from p h ends lt =
    pieces_passed breaks_of (x.0 + length x.1) to passed xs from p h.2 (All-tail (EndsBy from) x passed ends) lt
    ∙ piece_passed breaks_of x (passed ++ xs) from p h.1 (All-head (EndsBy from) x passed ends) lt

-- ---- breaks to come

pub first_found : (breaks_of : List ℕ → List Break) (pending : List ℕ) (xs : List (ℕ × List ℕ)) (low after to from place : ℕ) → RiseBetween low after pending → FollowBetween breaks_of after to xs → first_place pending ≡ Some place → from < place
    → IsFirstAfter (pending ++ flat_map (breaks_in breaks_of) xs) from place
first_found breaks_of [] xs low after to from place rise follow found lt = absurd (none-some place found)
first_found breaks_of (q ∷ qs) xs low after to from place rise follow found lt =
    let rest = flat_map (breaks_in breaks_of) xs in
    let same : q ≡ place = some_same q place found in
    record {
      after = lt;
      among = or_left (place == q) (is_one_of place (qs ++ rest)) (eq-eqb place q (sym same));
      first = λ p l u. false_from_ne_true (is_one_of p (q ∷ (qs ++ rest))) (λ i. elim (or_cases (is_one_of p (q ∷ qs)) (is_one_of p rest) (sym (list_any-append (λ b. p == b) (q ∷ qs) rest) ∙ i)) [
        | inl pending ↦ omega (arith, (in_rise q after p (q ∷ qs) (omega arith, rise.1) pending).0, same)
        | inr later ↦ omega (arith, in_follow breaks_of after to p xs follow later, rise_order q after qs rise.1, same)
      ]);
    }

-- ---- one step

pub no_head : (ps : List ℕ) → first_place ps ≡ None → ps ≡ []
no_head [] e = refl
no_head (p ∷ ps) e = absurd (none-some p (sym e))

module _ (breaks_of : List ℕ → List Break) (b later : WordBreaks) (order : InOrder breaks_of b) where
  -- Pending breaks that are not after a place are passed.
  module _ (from : ℕ) (pending : pending_breaks later ≡ places_after from (pending_breaks b)) (pieces : remaining_pieces later ≡ remaining_pieces b) (reached : later.reached ≡ b.reached) where
    pub order_left : InOrder breaks_of later
    order_left = record {
      end = order.end;
      end_fits_usize = order.end_fits_usize;
      pending = subst (λ to. RiseBetween 0 to (pending_breaks later)) (sym reached) (subst (RiseBetween 0 b.reached) (sym pending) (rise_left from 0 b.reached (pending_breaks b) order.pending));
      pieces = subst (λ at. FollowBetween breaks_of at order.end (remaining_pieces later)) (sym reached) (subst (FollowBetween breaks_of b.reached order.end) (sym pieces) order.pieces);
    }

    pub stay_left : (p : ℕ) → from < p → is_one_of p (remaining_breaks breaks_of later) ≡ is_one_of p (remaining_breaks breaks_of b)
    stay_left p lt =
        let ps = pending_breaks b in
        let rest = flat_map (breaks_in breaks_of) (remaining_pieces b) in
        ap (λ qs. is_one_of p (qs ++ flat_map (breaks_in breaks_of) (remaining_pieces later))) pending
        ∙ ap (λ xs. is_one_of p (places_after from ps ++ flat_map (breaks_in breaks_of) xs)) pieces
        ∙ list_any-append (λ q. p == q) (places_after from ps) rest ∙ ap (λ v. v || is_one_of p rest) (left_same from p ps lt)
        ∙ sym (list_any-append (λ q. p == q) ps rest)

    pub first_left : (place : ℕ) → first_place (pending_breaks later) ≡ Some place → IsFirstAfter (remaining_breaks breaks_of later) from place
    first_left place found =
        let o = order_left in
        first_found breaks_of (pending_breaks later) (remaining_pieces later) 0 later.reached o.end from place o.pending o.pieces found
        (head_after from place (pending_breaks b) (ap first_place (sym pending) ∙ found))

  -- First pieces that end at or before a place are passed.
  module _ (from : ℕ) (pending : pending_breaks later ≡ pending_breaks b) (pieces : PassesBefore from (remaining_pieces b) (remaining_pieces later)) (reached : later.reached ≡ b.reached) where
    all_pieces : FollowBetween breaks_of b.reached order.end (pieces.0 ++ remaining_pieces later)
    all_pieces = subst (FollowBetween breaks_of b.reached order.end) pieces.1 order.pieces

    pub order_passed : InOrder breaks_of later
    order_passed = record {
      end = order.end;
      end_fits_usize = order.end_fits_usize;
      pending = subst (λ to. RiseBetween 0 to (pending_breaks later)) (sym reached) (subst (RiseBetween 0 b.reached) (sym pending) order.pending);
      pieces = subst (λ at. FollowBetween breaks_of at order.end (remaining_pieces later)) (sym reached) (follow_without breaks_of b.reached order.end pieces.0 (remaining_pieces later) all_pieces);
    }

    pub stay_passed : (p : ℕ) → from < p → is_one_of p (remaining_breaks breaks_of later) ≡ is_one_of p (remaining_breaks breaks_of b)
    stay_passed p lt =
        let ps = pending_breaks b in
        let xs = remaining_pieces later in
        ap (λ qs. is_one_of p (qs ++ flat_map (breaks_in breaks_of) xs)) pending
        ∙ list_any-append (λ q. p == q) ps (flat_map (breaks_in breaks_of) xs)
        ∙ ap (λ v. is_one_of p ps || v) (pieces_passed breaks_of b.reached order.end pieces.0 xs from p all_pieces pieces.2 lt)
        ∙ sym (list_any-append (λ q. p == q) ps (flat_map (breaks_in breaks_of) (pieces.0 ++ xs)))
        ∙ ap (λ ys. is_one_of p (ps ++ flat_map (breaks_in breaks_of) ys)) (sym pieces.1)

  -- No break is to come before the pieces that are left, where none is pending.
  pub none_before : (from until : ℕ) → first_place (pending_breaks b) ≡ None → until ≤ b.reached → NoneWithin (remaining_breaks breaks_of b) from until
  none_before from until none at =
      λ p l u. ap (λ ps. is_one_of p (ps ++ flat_map (breaks_in breaks_of) (remaining_pieces b))) (no_head (pending_breaks b) none)
      ∙ false_from_ne_true (is_one_of p (flat_map (breaks_in breaks_of) (remaining_pieces b))) (λ i. omega (arith, in_follow breaks_of b.reached order.end p (remaining_pieces b) order.pieces i))

  -- The next piece is taken, where no break is pending.
  module _ (x : ℕ × List ℕ) (xs : List (ℕ × List ℕ)) (none : first_place (pending_breaks b) ≡ None) (next : remaining_pieces b ≡ x ∷ xs) where
    taken : FollowBetween breaks_of b.reached order.end (x ∷ xs)
    taken = subst (FollowBetween breaks_of b.reached order.end) next order.pieces

    before : (p : ℕ) → is_one_of p (remaining_breaks breaks_of b) ≡ is_one_of p (flat_map (breaks_in breaks_of) (x ∷ xs))
    before p =
        ap (λ ps. is_one_of p (ps ++ flat_map (breaks_in breaks_of) (remaining_pieces b))) (no_head (pending_breaks b) none)
        ∙ ap (λ ys. is_one_of p (flat_map (breaks_in breaks_of) ys)) next

    pub piece_fits_usize : FitsUsize (x.0 + length x.1)
    piece_fits_usize = omega (arith, order.end_fits_usize, follow_order breaks_of (x.0 + length x.1) order.end xs taken.2)

    module _ (pieces : remaining_pieces later ≡ xs) (reached : later.reached ≡ x.0 + length x.1) where
      follows : FollowBetween breaks_of later.reached order.end (remaining_pieces later)
      follows = subst (λ at. FollowBetween breaks_of at order.end (remaining_pieces later)) (sym reached) (subst (FollowBetween breaks_of (x.0 + length x.1) order.end) (sym pieces) taken.2)

      -- The piece ends before the place, and is left out.
      pub order_without : pending_breaks later ≡ pending_breaks b → InOrder breaks_of later
      order_without pending = record { end = order.end; end_fits_usize = order.end_fits_usize; pending = subst (RiseBetween 0 later.reached) (sym (pending ∙ no_head (pending_breaks b) none)) (omega arith); pieces = follows }

      pub stay_without : (from p : ℕ) → pending_breaks later ≡ pending_breaks b → x.0 + length x.1 ≤ from → from < p → is_one_of p (remaining_breaks breaks_of later) ≡ is_one_of p (remaining_breaks breaks_of b)
      stay_without from p pending ends lt =
          ap (λ ps. is_one_of p (ps ++ flat_map (breaks_in breaks_of) (remaining_pieces later))) (pending ∙ no_head (pending_breaks b) none)
          ∙ ap (λ ys. is_one_of p (flat_map (breaks_in breaks_of) ys)) pieces ∙ piece_passed breaks_of x xs from p taken.1 ends lt ∙ sym (before p)

      -- The breaks of the piece are pending.
      pub order_broken : pending_breaks later ≡ breaks_in breaks_of x → InOrder breaks_of later
      order_broken pending = record {
        end = order.end;
        end_fits_usize = order.end_fits_usize;
        pending = subst (λ to. RiseBetween 0 to (pending_breaks later)) (sym reached) (subst (RiseBetween 0 (x.0 + length x.1)) (sym pending) (rise_from 0 x.0 (x.0 + length x.1) (breaks_in breaks_of x) (omega arith) taken.1));
        pieces = follows;
      }

      pub stay_broken : (p : ℕ) → pending_breaks later ≡ breaks_in breaks_of x → is_one_of p (remaining_breaks breaks_of later) ≡ is_one_of p (remaining_breaks breaks_of b)
      stay_broken p pending =
          ap (λ ps. is_one_of p (ps ++ flat_map (breaks_in breaks_of) (remaining_pieces later))) pending
          ∙ ap (λ ys. is_one_of p (breaks_in breaks_of x ++ flat_map (breaks_in breaks_of) ys)) pieces ∙ sym (before p)
