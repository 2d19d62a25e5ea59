use mir.Syntax.{w32}
use mir.Val.{to_z, of_z}
use Rattle.std.proofs.Common.{◌≡◌, ◌<◌, ◌≤◌, ◌+◌, ◌-◌, None, length, get_or, pos, ℕ, ◌+ℤ◌, true, false, sym, ap, ◌∙◌, subst, arith, rules}
use Rattle.std.specs.Prelude.{int_lt, option_map, ◌&&◌}
use Rattle.std.specs.List.{before_first}
use Rattle.std.proofs.lemmas.List.{length-map}
use Rattle.std.proofs.lemmas.Int.{to_z-of_z}
use Rattle.libhyphen_rule.specs.Found.{placed, placed_all}
use Rattle.libhyphen_rule.specs.Letters.{letters, letters_in_first, digits_at_begin}
use Rattle.libhyphen_rule.specs.Minima.{left_goes, is_short_before, has_equals, is_below, is_equals}
use Rattle.libhyphen_rule.proofs.LetterCounts.{letters_in_none, letters_more, letters_at_most_two}
use Rattle.libhyphen_rule.proofs.Short.{change_read, is_short_left, is_enough_left, is_outside_left, stays_left, goes_left_none, goes_left_some}
use Rattle.libhyphen_rule.proofs.Taken.{Taken, taken_none, stays_next, goes_next, taken_all}
use Rattle.libhyphen_rule.proofs.minima.take_left.Goals as goal
use Rattle.libhyphen_rule.proofs.minima.take_left.Goals.{in-Some, in-None, then-goes, else-goes}

pub loop-byte-init : goal.loop-byte-init
loop-byte-init c = record {
  count = sym (letters_in_none c.args.utf8 c.args.text.now);
  few = omega arith;
  digits = taken_none _ _ _ _ _;
  changes = taken_none _ _ _ _ _;
}

pub loop-byte-preserved : goal.loop-byte-preserved
loop-byte-preserved c =
    let least : to_z w32 (of_z w32 c.args.least) ≡ c.args.least = to_z-of_z w32 c.args.least c.ranges.least in
    let byte = c.loop-byte.byte in
    let test = left_goes c.args.utf8 c.args.least c.args.text.now (placed_all c.args.changes.now) in
    let count : c.loop-byte.count + c.letters_at-count.result ≡ letters_in_first c.args.utf8 c.args.text.now (byte + 1) =
    omega (arith, letters_more c.args.utf8 c.args.text.now byte, c.letters_at-count.ensures) in
    let within : byte < length c.args.text.now = omega arith in
    let of_digits : byte < length c.args.digits.now = omega arith in
    let few : int_lt (pos (c.loop-byte.count + c.letters_at-count.result)) (c.args.least +ℤ pos c.digits_at_begin-digits_before.result) ≡ true =
    ap (λ l. int_lt (pos (c.loop-byte.count + c.letters_at-count.result)) (l +ℤ pos c.digits_at_begin-digits_before.result)) (sym least)
    ∙ sym c.is_few.ensures ∙ search rules in
    let short : is_short_before c.args.utf8 c.args.least c.args.text.now byte ≡ true =
    is_short_left c.args.utf8 c.args.least c.args.text.now byte within
    (ap (λ (n : ℕ). int_lt (pos n) (c.args.least +ℤ pos (digits_at_begin c.args.text.now))) (sym count)
    ∙ ap (λ (n : ℕ). int_lt (pos (c.loop-byte.count + c.letters_at-count.result)) (c.args.least +ℤ pos n)) (sym c.digits_at_begin-digits_before.ensures) ∙ few) in
    let digits : Taken test 48 0 c.args.digits.now c.loop-byte.digits 0 byte =
    subst (λ l. Taken (left_goes c.args.utf8 l c.args.text.now (placed_all c.args.changes.now)) 48 0 c.args.digits.now c.loop-byte.digits 0 byte) least c.loop-byte.invariant.digits in
    let changes : Taken test None None (placed_all c.args.changes.now) (placed_all c.loop-byte.changes) 0 byte =
    subst (λ l. Taken (left_goes c.args.utf8 l c.args.text.now (placed_all c.args.changes.now)) None None (placed_all c.args.changes.now) (placed_all c.loop-byte.changes) 0 byte) least c.loop-byte.invariant.changes in
    let item : get_or (placed_all c.args.changes.now) byte None ≡ option_map placed c.change_behind.result =
    sym (changes.behind byte (omega arith)) ∙ change_read c.loop-byte.changes byte ∙ ap (option_map placed) (sym c.change_behind.ensures) in
    let goes : test byte ≡ c.match-change_behind.goes = elim c.match-change_behind.branch [
      | in-Some w ↦ goes_left_some c.args.utf8 c.args.least c.args.text.now byte _ (placed w.in-Some.change) w.is_short_before-goes.result (item ∙ ap (option_map placed) w.in-Some.is) short
          (w.is_short_before-goes.ensures ∙ ap (λ l. has_equals w.in-Some.change.text.now && is_below (letters_in_first c.args.utf8 c.args.text.now (byte + 1 - w.in-Some.change.pos) + letters c.args.utf8 (before_first is_equals w.in-Some.change.text.now)) l) least)
          ∙ sym w.goes-is
      | in-None w ↦ goes_left_none c.args.utf8 c.args.least c.args.text.now byte _ (item ∙ ap (option_map placed) w.in-None.is) short ∙ sym w.goes-is
    ] in
    record {
      count = count;
      few = omega (arith, letters_at_most_two c.args.utf8 c.args.text.now c.loop-byte.byte, c.letters_at-count.ensures);
      digits = subst (λ l. Taken (left_goes c.args.utf8 l c.args.text.now (placed_all c.args.changes.now)) 48 0 c.args.digits.now c.if-goes.digits 0 (byte + 1)) (sym least)
          (elim c.if-goes.branch [
            | then-goes w ↦ subst (λ xs. Taken test 48 0 c.args.digits.now xs 0 (byte + 1)) (sym (w.digits-is ∙ w.take_place.ensures.digits))
                (goes_next test 48 0 c.args.digits.now c.loop-byte.digits 0 byte (omega arith) (goes ∙ w.if-goes.true) digits)
            | else-goes w ↦ subst (λ xs. Taken test 48 0 c.args.digits.now xs 0 (byte + 1)) (sym w.digits-is)
                (stays_next test 48 0 c.args.digits.now c.loop-byte.digits 0 byte (goes ∙ w.if-goes.false) digits)
          ]);
      changes = subst (λ l. Taken (left_goes c.args.utf8 l c.args.text.now (placed_all c.args.changes.now)) None None (placed_all c.args.changes.now) (placed_all c.if-goes.changes) 0 (byte + 1)) (sym least)
          (elim c.if-goes.branch [
            | then-goes w ↦ subst (λ xs. Taken test None None (placed_all c.args.changes.now) xs 0 (byte + 1)) (sym (ap placed_all w.changes-is ∙ w.take_place.ensures.changes))
                (goes_next test None None (placed_all c.args.changes.now) (placed_all c.loop-byte.changes) 0 byte (omega arith) (goes ∙ w.if-goes.true) changes)
            | else-goes w ↦ subst (λ xs. Taken test None None (placed_all c.args.changes.now) xs 0 (byte + 1)) (sym (ap placed_all w.changes-is))
                (stays_next test None None (placed_all c.args.changes.now) (placed_all c.loop-byte.changes) 0 byte (goes ∙ w.if-goes.false) changes)
          ]);
    }

pub returns-then-not-is_few-clause-digits : goal.returns-then-not-is_few-clause-digits
returns-then-not-is_few-clause-digits c =
    let least : to_z w32 (of_z w32 c.args.least) ≡ c.args.least = to_z-of_z w32 c.args.least c.ranges.least in
    let byte = c.loop-byte.byte in
    let test = left_goes c.args.utf8 c.args.least c.args.text.now (placed_all c.args.changes.now) in
    let taken : Taken test 48 0 c.args.digits.now c.loop-byte.digits 0 byte =
    subst (λ l. Taken (left_goes c.args.utf8 l c.args.text.now (placed_all c.args.changes.now)) 48 0 c.args.digits.now c.loop-byte.digits 0 byte) least c.loop-byte.invariant.digits in
    let count : c.loop-byte.count + c.letters_at-count.result ≡ letters_in_first c.args.utf8 c.args.text.now (byte + 1) =
    omega (arith, letters_more c.args.utf8 c.args.text.now byte, c.letters_at-count.ensures) in
    let enough : int_lt (pos (letters_in_first c.args.utf8 c.args.text.now (byte + 1))) (c.args.least +ℤ pos (digits_at_begin c.args.text.now)) ≡ false =
    ap (λ (n : ℕ). int_lt (pos n) (c.args.least +ℤ pos (digits_at_begin c.args.text.now))) (sym count)
    ∙ ap (λ (n : ℕ). int_lt (pos (c.loop-byte.count + c.letters_at-count.result)) (c.args.least +ℤ pos n)) (sym c.digits_at_begin-digits_before.ensures)
    ∙ ap (λ l. int_lt (pos (c.loop-byte.count + c.letters_at-count.result)) (l +ℤ pos c.digits_at_begin-digits_before.result)) (sym least)
    ∙ sym c.is_few.ensures ∙ search rules in
    let stays : (k : ℕ) → byte ≤ k → test k ≡ false =
    λ k le. stays_left c.args.utf8 c.args.least c.args.text.now k _ (is_enough_left c.args.utf8 c.args.least c.args.text.now byte k le enough) in
    taken_all test 48 0 c.args.digits.now c.loop-byte.digits 0 byte (λ k lt. absurd (omega arith)) (λ k le _. stays k le) taken

pub returns-then-not-is_few-clause-changes : goal.returns-then-not-is_few-clause-changes
returns-then-not-is_few-clause-changes c =
    let least : to_z w32 (of_z w32 c.args.least) ≡ c.args.least = to_z-of_z w32 c.args.least c.ranges.least in
    let byte = c.loop-byte.byte in
    let test = left_goes c.args.utf8 c.args.least c.args.text.now (placed_all c.args.changes.now) in
    let taken : Taken test None None (placed_all c.args.changes.now) (placed_all c.loop-byte.changes) 0 byte =
    subst (λ l. Taken (left_goes c.args.utf8 l c.args.text.now (placed_all c.args.changes.now)) None None (placed_all c.args.changes.now) (placed_all c.loop-byte.changes) 0 byte) least c.loop-byte.invariant.changes in
    let count : c.loop-byte.count + c.letters_at-count.result ≡ letters_in_first c.args.utf8 c.args.text.now (byte + 1) =
    omega (arith, letters_more c.args.utf8 c.args.text.now byte, c.letters_at-count.ensures) in
    let enough : int_lt (pos (letters_in_first c.args.utf8 c.args.text.now (byte + 1))) (c.args.least +ℤ pos (digits_at_begin c.args.text.now)) ≡ false =
    ap (λ (n : ℕ). int_lt (pos n) (c.args.least +ℤ pos (digits_at_begin c.args.text.now))) (sym count)
    ∙ ap (λ (n : ℕ). int_lt (pos (c.loop-byte.count + c.letters_at-count.result)) (c.args.least +ℤ pos n)) (sym c.digits_at_begin-digits_before.ensures)
    ∙ ap (λ l. int_lt (pos (c.loop-byte.count + c.letters_at-count.result)) (l +ℤ pos c.digits_at_begin-digits_before.result)) (sym least)
    ∙ sym c.is_few.ensures ∙ search rules in
    let stays : (k : ℕ) → byte ≤ k → test k ≡ false =
    λ k le. stays_left c.args.utf8 c.args.least c.args.text.now k _ (is_enough_left c.args.utf8 c.args.least c.args.text.now byte k le enough) in
    taken_all test None None (placed_all c.args.changes.now) (placed_all c.loop-byte.changes) 0 byte (λ k lt. absurd (omega arith)) (λ k le _. stays k le) taken

pub returns-clause-digits : goal.returns-clause-digits
returns-clause-digits c =
    let least : to_z w32 (of_z w32 c.args.least) ≡ c.args.least = to_z-of_z w32 c.args.least c.ranges.least in
    let byte = c.loop-byte.byte in
    let test = left_goes c.args.utf8 c.args.least c.args.text.now (placed_all c.args.changes.now) in
    let taken : Taken test 48 0 c.args.digits.now c.loop-byte.digits 0 byte =
    subst (λ l. Taken (left_goes c.args.utf8 l c.args.text.now (placed_all c.args.changes.now)) 48 0 c.args.digits.now c.loop-byte.digits 0 byte) least c.loop-byte.invariant.digits in
    let stays : (k : ℕ) → byte ≤ k → k < length c.args.digits.now → test k ≡ false =
    λ k le lt. stays_left c.args.utf8 c.args.least c.args.text.now k _ (is_outside_left c.args.utf8 c.args.least c.args.text.now k (omega arith)) in
    taken_all test 48 0 c.args.digits.now c.loop-byte.digits 0 byte (λ k lt. absurd (omega arith)) (λ k le lt. stays k le lt) taken

pub returns-clause-changes : goal.returns-clause-changes
returns-clause-changes c =
    let least : to_z w32 (of_z w32 c.args.least) ≡ c.args.least = to_z-of_z w32 c.args.least c.ranges.least in
    let byte = c.loop-byte.byte in
    let test = left_goes c.args.utf8 c.args.least c.args.text.now (placed_all c.args.changes.now) in
    let taken : Taken test None None (placed_all c.args.changes.now) (placed_all c.loop-byte.changes) 0 byte =
    subst (λ l. Taken (left_goes c.args.utf8 l c.args.text.now (placed_all c.args.changes.now)) None None (placed_all c.args.changes.now) (placed_all c.loop-byte.changes) 0 byte) least c.loop-byte.invariant.changes in
    let stays : (k : ℕ) → byte ≤ k → k < length c.args.digits.now → test k ≡ false =
    λ k le lt. stays_left c.args.utf8 c.args.least c.args.text.now k _ (is_outside_left c.args.utf8 c.args.least c.args.text.now k (omega arith)) in
    taken_all test None None (placed_all c.args.changes.now) (placed_all c.loop-byte.changes) 0 byte (λ k lt. absurd (omega arith)) (λ k le lt. stays k le (omega (arith, length-map c.args.changes.now (option_map placed)))) taken
