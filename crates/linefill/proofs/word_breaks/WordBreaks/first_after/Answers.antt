use Rattle.std.proofs.Common.{◌≡◌, ℕ, ◌+◌, List, ◌∷◌, ◌++◌, None, length, map, refl, sym, ap, ◌∙◌, arith}
use Rattle.std.specs.List.{flat_map}
use Rattle.linefill.specs.Cuts.{is_one_of, breaks_in}
use Rattle.linefill.specs.Private.WordBreaks.{pending_breaks, remaining_pieces, first_place, with_next_piece}
use Rattle.linefill.specs.declared.word_breaks.WordBreaks.{WordBreaks}
use Rattle.linefill.proofs.TextBreaks.{placed}
use Rattle.linefill.proofs.WordBreaks.{no_head, all_fit_usize, follow_order, order_left, stay_left, first_left, piece_fits_usize, none_before, order_passed, stay_passed, order_without, stay_without, order_broken, stay_broken}
use Rattle.linefill.proofs.word_breaks.WordBreaks.first_after.Goals as goal

pub loop-place-init : goal.loop-place-init
loop-place-init g c =
    let breaks_of = g.H.Hyphenator.breaks_of c.args.dictionary.now in
    record {
      order = order_passed breaks_of c.args.self.now c.pass_before.new.self c.requires c.args.from c.pass_before.ensures.pending c.pass_before.ensures.pieces c.pass_before.ensures.reached;
      stay = λ p lt. refl;
    }

pub first_pending-requires : goal.first_pending-requires
first_pending-requires g c =
    let breaks_of = g.H.Hyphenator.breaks_of c.args.dictionary.now in
    let b = c.loop-place.self in
    let order = c.loop-place.invariant.order in
    all_fit_usize 0 b.reached (pending_breaks b) (omega (arith, order.end_fits_usize, follow_order breaks_of b.reached order.end (remaining_pieces b) order.pieces)) order.pending

pub returns-in-Some-clause-in_order : goal.returns-in-Some-clause-in_order
returns-in-Some-clause-in_order g c =
    let breaks_of = g.H.Hyphenator.breaks_of c.args.dictionary.now in
    order_left breaks_of c.loop-place.self c.first_pending.new.self c.loop-place.invariant.order c.args.from c.first_pending.ensures.pending c.first_pending.ensures.pieces c.first_pending.ensures.reached

pub returns-in-Some-clause-later_breaks_stay : goal.returns-in-Some-clause-later_breaks_stay
returns-in-Some-clause-later_breaks_stay g c = λ p lt.
    let breaks_of = g.H.Hyphenator.breaks_of c.args.dictionary.now in
    stay_left breaks_of c.loop-place.self c.first_pending.new.self c.loop-place.invariant.order c.args.from c.first_pending.ensures.pending c.first_pending.ensures.pieces c.first_pending.ensures.reached p lt ∙ c.loop-place.invariant.stay p lt
    ∙ stay_passed breaks_of c.args.self.now c.pass_before.new.self c.requires c.args.from c.pass_before.ensures.pending c.pass_before.ensures.pieces c.pass_before.ensures.reached p lt

pub returns-in-Some-clause-first : goal.returns-in-Some-clause-first
returns-in-Some-clause-first g c =
    let breaks_of = g.H.Hyphenator.breaks_of c.args.dictionary.now in
    first_left breaks_of c.loop-place.self c.first_pending.new.self c.loop-place.invariant.order c.args.from c.first_pending.ensures.pending c.first_pending.ensures.pieces c.first_pending.ensures.reached c.in-Some.place (sym c.first_pending.ensures.first ∙ c.in-Some.is)

pub returns-in_default-next_piece-clause-later_breaks_stay : goal.returns-in_default-next_piece-clause-later_breaks_stay
returns-in_default-next_piece-clause-later_breaks_stay g c = λ p lt.
    let breaks_of = g.H.Hyphenator.breaks_of c.args.dictionary.now in
    let b = c.first_pending.new.self in
    let later = c.next_piece.new.self in
    let same : remaining_pieces b ≡ remaining_pieces later = c.next_piece.ensures.pieces ∙ ap (λ o. with_next_piece o (remaining_pieces later)) c.in_default-next_piece.is in
    ap (λ ps. is_one_of p (ps ++ flat_map (breaks_in breaks_of) (remaining_pieces later))) c.next_piece.ensures.pending
    ∙ ap (λ xs. is_one_of p (pending_breaks b ++ flat_map (breaks_in breaks_of) xs)) (sym same)
    ∙ stay_left breaks_of c.loop-place.self b c.loop-place.invariant.order c.args.from c.first_pending.ensures.pending c.first_pending.ensures.pieces c.first_pending.ensures.reached p lt ∙ c.loop-place.invariant.stay p lt
    ∙ stay_passed breaks_of c.args.self.now c.pass_before.new.self c.requires c.args.from c.pass_before.ensures.pending c.pass_before.ensures.pieces c.pass_before.ensures.reached p lt

pub returns-in_default-next_piece-clause-first : goal.returns-in_default-next_piece-clause-first
returns-in_default-next_piece-clause-first g c = λ p l u.
    let breaks_of = g.H.Hyphenator.breaks_of c.args.dictionary.now in
    let later = c.next_piece.new.self in
    let none : first_place (pending_breaks c.first_pending.new.self) ≡ None = sym c.first_pending.ensures.first ∙ c.in_default.is in
    ap (λ ps. is_one_of p (ps ++ flat_map (breaks_in breaks_of) (remaining_pieces later))) (c.next_piece.ensures.pending ∙ no_head (pending_breaks c.first_pending.new.self) none)
    ∙ ap (λ xs. is_one_of p (flat_map (breaks_in breaks_of) xs)) (c.next_piece.ensures.no_piece_left c.in_default-next_piece.is)

pub returns-then-until-self-clause-later_breaks_stay : goal.returns-then-until-self-clause-later_breaks_stay
returns-then-until-self-clause-later_breaks_stay g c = λ p lt.
    let breaks_of = g.H.Hyphenator.breaks_of c.args.dictionary.now in
    stay_left breaks_of c.loop-place.self c.first_pending.new.self c.loop-place.invariant.order c.args.from c.first_pending.ensures.pending c.first_pending.ensures.pieces c.first_pending.ensures.reached p lt ∙ c.loop-place.invariant.stay p lt
    ∙ stay_passed breaks_of c.args.self.now c.pass_before.new.self c.requires c.args.from c.pass_before.ensures.pending c.pass_before.ensures.pieces c.pass_before.ensures.reached p lt

pub returns-then-until-self-clause-first : goal.returns-then-until-self-clause-first
returns-then-until-self-clause-first g c =
    let breaks_of = g.H.Hyphenator.breaks_of c.args.dictionary.now in
    let from = c.args.from in
    let b = c.first_pending.new.self in
    let before = c.loop-place.invariant in
    let order = order_left breaks_of c.loop-place.self b before.order from c.first_pending.ensures.pending c.first_pending.ensures.pieces c.first_pending.ensures.reached in
    let none : first_place (pending_breaks b) ≡ None = sym c.first_pending.ensures.first ∙ c.in_default.is in
    none_before breaks_of b b order from c.args.until none (omega (arith, c.if-until-self.true))

pub overflow_add-self : goal.overflow_add-self
overflow_add-self g c =
    let breaks_of = g.H.Hyphenator.breaks_of c.args.dictionary.now in
    let from = c.args.from in
    let b = c.first_pending.new.self in
    let before = c.loop-place.invariant in
    let order = order_left breaks_of c.loop-place.self b before.order from c.first_pending.ensures.pending c.first_pending.ensures.pieces c.first_pending.ensures.reached in
    let none : first_place (pending_breaks b) ≡ None = sym c.first_pending.ensures.first ∙ c.in_default.is in
    let x : ℕ × List ℕ = (c.in-Some-next_piece.offset, c.in-Some-next_piece.piece.now) in
    let xs = remaining_pieces c.next_piece.new.self in
    let next : remaining_pieces b ≡ x ∷ xs = c.next_piece.ensures.pieces ∙ ap (λ o. with_next_piece o xs) c.in-Some-next_piece.is in
    omega (arith, piece_fits_usize breaks_of b b order x xs none next)

pub loop-place-preserved-then-from-self : goal.loop-place-preserved-then-from-self
loop-place-preserved-then-from-self g c =
    let breaks_of = g.H.Hyphenator.breaks_of c.args.dictionary.now in
    let from = c.args.from in
    let b = c.first_pending.new.self in
    let before = c.loop-place.invariant in
    let order = order_left breaks_of c.loop-place.self b before.order from c.first_pending.ensures.pending c.first_pending.ensures.pieces c.first_pending.ensures.reached in
    let none : first_place (pending_breaks b) ≡ None = sym c.first_pending.ensures.first ∙ c.in_default.is in
    let x : ℕ × List ℕ = (c.in-Some-next_piece.offset, c.in-Some-next_piece.piece.now) in
    let xs = remaining_pieces c.next_piece.new.self in
    let next : remaining_pieces b ≡ x ∷ xs = c.next_piece.ensures.pieces ∙ ap (λ o. with_next_piece o xs) c.in-Some-next_piece.is in
    let later : WordBreaks = record { offset = x.0; breaks = c.breaks_into.new.breaks; passed = 0; pieces = c.next_piece.new.self.pieces; reached = x.0 + length x.1 } in
    let pending : pending_breaks later ≡ breaks_in breaks_of x = placed x.0 c.breaks_into.new.breaks.items ∙ ap (map (λ v. x.0 + v.place)) c.in_ok-breaks_into.ensures.breaks in
    record {
      order = order_broken breaks_of b later order x xs none next refl refl pending;
      stay = λ p lt. stay_broken breaks_of b later order x xs none next refl refl p pending ∙ stay_left breaks_of c.loop-place.self b before.order from c.first_pending.ensures.pending c.first_pending.ensures.pieces c.first_pending.ensures.reached p lt ∙ before.stay p lt;
    }

pub loop-place-preserved : goal.loop-place-preserved
loop-place-preserved g c =
    let breaks_of = g.H.Hyphenator.breaks_of c.args.dictionary.now in
    let from = c.args.from in
    let b = c.first_pending.new.self in
    let before = c.loop-place.invariant in
    let order = order_left breaks_of c.loop-place.self b before.order from c.first_pending.ensures.pending c.first_pending.ensures.pieces c.first_pending.ensures.reached in
    let none : first_place (pending_breaks b) ≡ None = sym c.first_pending.ensures.first ∙ c.in_default.is in
    let x : ℕ × List ℕ = (c.in-Some-next_piece.offset, c.in-Some-next_piece.piece.now) in
    let xs = remaining_pieces c.next_piece.new.self in
    let next : remaining_pieces b ≡ x ∷ xs = c.next_piece.ensures.pieces ∙ ap (λ o. with_next_piece o xs) c.in-Some-next_piece.is in
    let mid = c.next_piece.new.self in
    let later : WordBreaks = record { offset = mid.offset; breaks = mid.breaks; passed = mid.passed; pieces = mid.pieces; reached = x.0 + length x.1 } in
    record {
      order = order_without breaks_of b later order x xs none next refl refl c.next_piece.ensures.pending;
      stay = λ p lt. stay_without breaks_of b later order x xs none next refl refl from p c.next_piece.ensures.pending (omega (arith, c.if-from-self.false)) lt ∙ stay_left breaks_of c.loop-place.self b before.order from c.first_pending.ensures.pending c.first_pending.ensures.pieces c.first_pending.ensures.reached p lt ∙ before.stay p lt;
    }
