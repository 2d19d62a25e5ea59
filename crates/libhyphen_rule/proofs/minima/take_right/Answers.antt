use mir.Syntax.{w32}
use mir.Val.{to_z, of_z}
use Rattle.std.proofs.Common.{◌≡◌, ◌<◌, ◌≤◌, ◌+◌, ◌-◌, drop, None, length, get_or, pos, ℕ, ◌+ℤ◌, true, false, sym, ap, ◌∙◌, subst, arith, rules}
use Rattle.std.specs.Prelude.{int_lt, option_map, ◌&&◌}
use Rattle.std.specs.List.{after_first}
use Rattle.std.proofs.lemmas.List.{length-map}
use Rattle.std.proofs.lemmas.Int.{to_z-of_z}
use Rattle.libhyphen_rule.specs.Found.{placed, placed_all}
use Rattle.libhyphen_rule.specs.Letters.{letters, letters_in_hundred, characters_from, digits_at_end}
use Rattle.libhyphen_rule.specs.Minima.{right_goes, is_short_after, has_equals, is_below, is_equals}
use Rattle.libhyphen_rule.proofs.LetterCounts.{character_at, character_at_most_one, characters_from_end, characters_more}
use Rattle.libhyphen_rule.proofs.Short.{change_read, is_short_right, is_enough_right, is_first_right, stays_right, goes_right_none, goes_right_some}
use Rattle.libhyphen_rule.proofs.Taken.{Taken, taken_none, stays_before, goes_before, taken_all}
use Rattle.libhyphen_rule.proofs.minima.take_right.Goals as goal
use Rattle.libhyphen_rule.proofs.minima.take_right.Goals.{in-Some, in-None, then-goes, else-goes}

pub loop-end-init : goal.loop-end-init
loop-end-init c = record {
  within = omega arith;
  count = sym (characters_from_end c.args.utf8 c.args.word.now);
  few = omega arith;
  digits = taken_none _ _ _ _ _;
  changes = taken_none _ _ _ _ _;
}

pub loop-end-preserved : goal.loop-end-preserved
loop-end-preserved c =
    let least : to_z w32 (of_z w32 c.args.least) ≡ c.args.least = to_z-of_z w32 c.args.least c.ranges.least in
    let byte = c.loop-end.end - 1 in
    let next : byte + 1 ≡ c.loop-end.end = omega arith in
    let within : byte < length c.args.word.now = omega arith in
    let test = right_goes c.args.utf8 c.args.least c.args.word.now c.args.text.now (placed_all c.args.changes.now) in
    let counts : characters_from c.args.utf8 c.args.word.now byte ≡ character_at c.args.utf8 c.args.word.now byte + c.loop-end.count =
    characters_more c.args.utf8 c.args.word.now byte within
    ∙ ap (λ (n : ℕ). character_at c.args.utf8 c.args.word.now byte + characters_from c.args.utf8 c.args.word.now n) next
    ∙ ap (λ (n : ℕ). character_at c.args.utf8 c.args.word.now byte + n) (sym c.loop-end.invariant.count) in
    let one : c.characters_at-count.result ≡ character_at c.args.utf8 c.args.word.now byte = c.characters_at-count.ensures in
    let at_most : c.characters_at-count.result ≤ 1 = omega (arith, character_at_most_one c.args.utf8 c.args.word.now byte) in
    let few : int_lt (pos (characters_from c.args.utf8 c.args.word.now c.loop-end.end)) (c.args.least +ℤ pos (digits_at_end c.args.word.now)) ≡ true =
    ap (λ (n : ℕ). int_lt (pos n) (c.args.least +ℤ pos (digits_at_end c.args.word.now))) (sym c.loop-end.invariant.count)
    ∙ ap (λ (n : ℕ). int_lt (pos c.loop-end.count) (c.args.least +ℤ pos n)) (sym c.digits_at_end-digits_behind.ensures)
    ∙ ap (λ l. int_lt (pos c.loop-end.count) (l +ℤ pos c.digits_at_end-digits_behind.result)) (sym least)
    ∙ sym c.is_few.ensures ∙ search rules in
    let short : is_short_after c.args.utf8 c.args.least c.args.word.now byte ≡ true =
    is_short_right c.args.utf8 c.args.least c.args.word.now byte (omega arith)
    (ap (λ (n : ℕ). int_lt (pos (characters_from c.args.utf8 c.args.word.now n)) (c.args.least +ℤ pos (digits_at_end c.args.word.now))) next ∙ few) in
    let digits : Taken test 48 0 c.args.digits.now c.loop-end.digits c.loop-end.end (length c.args.word.now) =
    subst (λ l. Taken (right_goes c.args.utf8 l c.args.word.now c.args.text.now (placed_all c.args.changes.now)) 48 0 c.args.digits.now c.loop-end.digits c.loop-end.end (length c.args.word.now)) least c.loop-end.invariant.digits in
    let changes : Taken test None None (placed_all c.args.changes.now) (placed_all c.loop-end.changes) c.loop-end.end (length c.args.word.now) =
    subst (λ l. Taken (right_goes c.args.utf8 l c.args.word.now c.args.text.now (placed_all c.args.changes.now)) None None (placed_all c.args.changes.now) (placed_all c.loop-end.changes) c.loop-end.end (length c.args.word.now)) least c.loop-end.invariant.changes in
    let digits_here : Taken test 48 0 c.args.digits.now c.loop-end.digits (byte + 1) (length c.args.word.now) =
    subst (λ n. Taken test 48 0 c.args.digits.now c.loop-end.digits n (length c.args.word.now)) (sym next) digits in
    let changes_here : Taken test None None (placed_all c.args.changes.now) (placed_all c.loop-end.changes) (byte + 1) (length c.args.word.now) =
    subst (λ n. Taken test None None (placed_all c.args.changes.now) (placed_all c.loop-end.changes) n (length c.args.word.now)) (sym next) changes in
    let item : get_or (placed_all c.args.changes.now) byte None ≡ option_map placed c.change_behind.result =
    sym (changes.before byte (omega arith)) ∙ change_read c.loop-end.changes byte ∙ ap (option_map placed) (sym c.change_behind.ensures) in
    let goes : test byte ≡ c.match-change_behind.goes = elim c.match-change_behind.branch [
      | in-Some w ↦ goes_right_some c.args.utf8 c.args.least c.args.word.now c.args.text.now byte c.loop-end.end _ (placed w.in-Some.change) w.is_short_after-goes.result next
          (item ∙ ap (option_map placed) w.in-Some.is) short
          (w.is_short_after-goes.ensures
          ∙ ap (λ l. has_equals w.in-Some.change.text.now && is_below (letters_in_hundred c.args.utf8 (drop (c.loop-end.end - w.in-Some.change.pos + w.in-Some.change.cut) c.args.text.now) + letters c.args.utf8 (after_first is_equals w.in-Some.change.text.now)) l) least)
          ∙ sym w.goes-is
      | in-None w ↦ goes_right_none c.args.utf8 c.args.least c.args.word.now c.args.text.now byte _ (item ∙ ap (option_map placed) w.in-None.is) short ∙ sym w.goes-is
    ] in
    record {
      within = omega arith;
      count = ap (λ (n : ℕ). c.loop-end.count + n) one ∙ omega (arith, counts);
      few = omega arith;
      digits = subst (λ l. Taken (right_goes c.args.utf8 l c.args.word.now c.args.text.now (placed_all c.args.changes.now)) 48 0 c.args.digits.now c.if-goes.digits byte (length c.args.word.now)) (sym least)
          (elim c.if-goes.branch [
            | then-goes w ↦ subst (λ xs. Taken test 48 0 c.args.digits.now xs byte (length c.args.word.now)) (sym (w.digits-is ∙ w.take_place.ensures.digits))
                (goes_before test 48 0 c.args.digits.now c.loop-end.digits byte (length c.args.word.now) (omega arith) (goes ∙ w.if-goes.true) digits_here)
            | else-goes w ↦ subst (λ xs. Taken test 48 0 c.args.digits.now xs byte (length c.args.word.now)) (sym w.digits-is)
                (stays_before test 48 0 c.args.digits.now c.loop-end.digits byte (length c.args.word.now) (goes ∙ w.if-goes.false) digits_here)
          ]);
      changes = subst (λ l. Taken (right_goes c.args.utf8 l c.args.word.now c.args.text.now (placed_all c.args.changes.now)) None None (placed_all c.args.changes.now) (placed_all c.if-goes.changes) byte (length c.args.word.now)) (sym least)
          (elim c.if-goes.branch [
            | then-goes w ↦ subst (λ xs. Taken test None None (placed_all c.args.changes.now) xs byte (length c.args.word.now)) (sym (ap placed_all w.changes-is ∙ w.take_place.ensures.changes))
                (goes_before test None None (placed_all c.args.changes.now) (placed_all c.loop-end.changes) byte (length c.args.word.now) (omega arith) (goes ∙ w.if-goes.true) changes_here)
            | else-goes w ↦ subst (λ xs. Taken test None None (placed_all c.args.changes.now) xs byte (length c.args.word.now)) (sym (ap placed_all w.changes-is))
                (stays_before test None None (placed_all c.args.changes.now) (placed_all c.loop-end.changes) byte (length c.args.word.now) (goes ∙ w.if-goes.false) changes_here)
          ]);
    }

pub returns-then-not-is_few-clause-digits : goal.returns-then-not-is_few-clause-digits
returns-then-not-is_few-clause-digits c =
    let least : to_z w32 (of_z w32 c.args.least) ≡ c.args.least = to_z-of_z w32 c.args.least c.ranges.least in
    let test = right_goes c.args.utf8 c.args.least c.args.word.now c.args.text.now (placed_all c.args.changes.now) in
    let taken : Taken test 48 0 c.args.digits.now c.loop-end.digits c.loop-end.end (length c.args.word.now) =
    subst (λ l. Taken (right_goes c.args.utf8 l c.args.word.now c.args.text.now (placed_all c.args.changes.now)) 48 0 c.args.digits.now c.loop-end.digits c.loop-end.end (length c.args.word.now)) least c.loop-end.invariant.digits in
    let enough : int_lt (pos (characters_from c.args.utf8 c.args.word.now c.loop-end.end)) (c.args.least +ℤ pos (digits_at_end c.args.word.now)) ≡ false =
    ap (λ (n : ℕ). int_lt (pos n) (c.args.least +ℤ pos (digits_at_end c.args.word.now))) (sym c.loop-end.invariant.count)
    ∙ ap (λ (n : ℕ). int_lt (pos c.loop-end.count) (c.args.least +ℤ pos n)) (sym c.digits_at_end-digits_behind.ensures)
    ∙ ap (λ l. int_lt (pos c.loop-end.count) (l +ℤ pos c.digits_at_end-digits_behind.result)) (sym least)
    ∙ sym c.is_few.ensures ∙ search rules in
    let stays : (k : ℕ) → k < c.loop-end.end → test k ≡ false =
    λ k lt. stays_right c.args.utf8 c.args.least c.args.word.now c.args.text.now k _ (is_enough_right c.args.utf8 c.args.least c.args.word.now c.loop-end.end k lt c.loop-end.invariant.within enough) in
    taken_all test 48 0 c.args.digits.now c.loop-end.digits c.loop-end.end (length c.args.word.now) stays (λ k le lt. absurd (omega arith)) taken

pub returns-then-not-is_few-clause-changes : goal.returns-then-not-is_few-clause-changes
returns-then-not-is_few-clause-changes c =
    let least : to_z w32 (of_z w32 c.args.least) ≡ c.args.least = to_z-of_z w32 c.args.least c.ranges.least in
    let test = right_goes c.args.utf8 c.args.least c.args.word.now c.args.text.now (placed_all c.args.changes.now) in
    let taken : Taken test None None (placed_all c.args.changes.now) (placed_all c.loop-end.changes) c.loop-end.end (length c.args.word.now) =
    subst (λ l. Taken (right_goes c.args.utf8 l c.args.word.now c.args.text.now (placed_all c.args.changes.now)) None None (placed_all c.args.changes.now) (placed_all c.loop-end.changes) c.loop-end.end (length c.args.word.now)) least c.loop-end.invariant.changes in
    let enough : int_lt (pos (characters_from c.args.utf8 c.args.word.now c.loop-end.end)) (c.args.least +ℤ pos (digits_at_end c.args.word.now)) ≡ false =
    ap (λ (n : ℕ). int_lt (pos n) (c.args.least +ℤ pos (digits_at_end c.args.word.now))) (sym c.loop-end.invariant.count)
    ∙ ap (λ (n : ℕ). int_lt (pos c.loop-end.count) (c.args.least +ℤ pos n)) (sym c.digits_at_end-digits_behind.ensures)
    ∙ ap (λ l. int_lt (pos c.loop-end.count) (l +ℤ pos c.digits_at_end-digits_behind.result)) (sym least)
    ∙ sym c.is_few.ensures ∙ search rules in
    let stays : (k : ℕ) → k < c.loop-end.end → test k ≡ false =
    λ k lt. stays_right c.args.utf8 c.args.least c.args.word.now c.args.text.now k _ (is_enough_right c.args.utf8 c.args.least c.args.word.now c.loop-end.end k lt c.loop-end.invariant.within enough) in
    taken_all test None None (placed_all c.args.changes.now) (placed_all c.loop-end.changes) c.loop-end.end (length c.args.word.now) stays (λ k le lt. absurd (omega (arith, length-map c.args.changes.now (option_map placed)))) taken

pub returns-clause-digits : goal.returns-clause-digits
returns-clause-digits c =
    let least : to_z w32 (of_z w32 c.args.least) ≡ c.args.least = to_z-of_z w32 c.args.least c.ranges.least in
    let test = right_goes c.args.utf8 c.args.least c.args.word.now c.args.text.now (placed_all c.args.changes.now) in
    let taken : Taken test 48 0 c.args.digits.now c.loop-end.digits c.loop-end.end (length c.args.word.now) =
    subst (λ l. Taken (right_goes c.args.utf8 l c.args.word.now c.args.text.now (placed_all c.args.changes.now)) 48 0 c.args.digits.now c.loop-end.digits c.loop-end.end (length c.args.word.now)) least c.loop-end.invariant.digits in
    let stays : (k : ℕ) → k < c.loop-end.end → test k ≡ false =
    λ k lt. stays_right c.args.utf8 c.args.least c.args.word.now c.args.text.now k _ (is_first_right c.args.utf8 c.args.least c.args.word.now k (omega arith)) in
    taken_all test 48 0 c.args.digits.now c.loop-end.digits c.loop-end.end (length c.args.word.now) stays (λ k le lt. absurd (omega arith)) taken

pub returns-clause-changes : goal.returns-clause-changes
returns-clause-changes c =
    let least : to_z w32 (of_z w32 c.args.least) ≡ c.args.least = to_z-of_z w32 c.args.least c.ranges.least in
    let test = right_goes c.args.utf8 c.args.least c.args.word.now c.args.text.now (placed_all c.args.changes.now) in
    let taken : Taken test None None (placed_all c.args.changes.now) (placed_all c.loop-end.changes) c.loop-end.end (length c.args.word.now) =
    subst (λ l. Taken (right_goes c.args.utf8 l c.args.word.now c.args.text.now (placed_all c.args.changes.now)) None None (placed_all c.args.changes.now) (placed_all c.loop-end.changes) c.loop-end.end (length c.args.word.now)) least c.loop-end.invariant.changes in
    let stays : (k : ℕ) → k < c.loop-end.end → test k ≡ false =
    λ k lt. stays_right c.args.utf8 c.args.least c.args.word.now c.args.text.now k _ (is_first_right c.args.utf8 c.args.least c.args.word.now k (omega arith)) in
    taken_all test None None (placed_all c.args.changes.now) (placed_all c.loop-end.changes) c.loop-end.end (length c.args.word.now) stays (λ k le lt. absurd (omega (arith, length-map c.args.changes.now (option_map placed)))) taken
