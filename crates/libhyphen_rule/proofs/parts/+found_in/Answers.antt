use Rattle.std.proofs.Common.{◌≡◌, ◌+◌, ◌-◌, ◌<◌, length, true, false, None, Some, nat_lt, sym, ap, ◌∙◌, arith, suc, slice_index_or}
use Rattle.std.specs.Option.{option_map}
use Rattle.std.proofs.lemmas.Bool.Decides.{nat_tests}
use Rattle.std.specs.List.{list_any}
use Rattle.libhyphen_rule.specs.OneLevel.{is_odd}
use Rattle.libhyphen_rule.specs.Found.{asked_in, found_of, minima_of, placed, texts_of}
use Rattle.libhyphen_rule.specs.Parts.{asked_of, part_text, seen_after, with_part, found_in, found_by_next_level, parted_up_to}
use Rattle.libhyphen_rule.proofs.Partings.{ask_at, asked_some, asked_none_deep, asked_none_left, parted_none, parted_past, parted_short, parted_asked, found_parted, found_whole, first_level_made, first_level_parts, ok_same, ends_as, length_shown, with_none, with_some, placed_at}
use Rattle.libhyphen_rule.proofs.parts.+found_in.Goals as goal
use Rattle.libhyphen_rule.proofs.parts.+found_in.Goals.{then-depth-gt0+then-found-gt0+in_ok-inner, else-depth-gt0, else-depth-gt0-via-then-depth-gt0+else-found-gt0, else-depth-gt0-via-else-depth-gt0}

pub found_by_next_level-requires-clause-made : goal.found_by_next_level-requires-clause-made
found_by_next_level-requires-clause-made t c = first_level_made _ _ _ (found_of c.in_ok-first_level.first_level) c.in_ok-first_level.ensures.found

pub returns-then-not-has_break-clause-found : goal.returns-then-not-has_break-clause-found
returns-then-not-has_break-clause-found t c =
    let rules = c.args.levels.dictionary.now in
    let minima = minima_of c.args.levels in
    let asked = asked_in c.args.asked in
    let first_level = found_of c.in_ok-first_level.first_level in
    let even : list_any is_odd first_level.digits ≡ false = cc (c.deref.ensures.value) in
    ok_same c.found_by_next_level.result found_of _ _
    (ap (λ n. found_by_next_level rules minima n asked first_level.changes) (first_level_parts rules c.args.parts asked.text first_level c.in_ok-first_level.ensures.found)
    ∙ found_whole rules minima c.args.depth c.args.parts asked first_level c.in_ok-first_level.ensures.found even) c.found_by_next_level.ensures.found

pub loop-byte-init : goal.loop-byte-init
loop-byte-init t c = record {
  parted = parted_none _ _ _ _ c.in_ok-seen.ensures;
  begun = omega arith;
  digits = c.in_ok-first_level.ensures.digits;
  changes = c.in_ok-first_level.ensures.changes;
  seen = length_shown _ _ c.in_ok-seen.ensures;
}

pub loop-byte-preserved-then-not-ends_part : goal.loop-byte-preserved-then-not-ends_part
loop-byte-preserved-then-not-ends_part t c =
    let ends = ends_as c.in_ok-first_level.first_level.digits.items c.deref-in-loop-byte.result.now c.loop-byte.byte false
    (c.deref-in-loop-byte.ensures.value ∙ c.in_ok-ends.ensures ∙ c.deref-2.ensures.value) c.if-not-ends_part.ensures in
    record {
      parted = parted_past _ _ _ _ _ ends c.loop-byte.invariant.parted;
      begun = omega arith;
      digits = c.loop-byte.invariant.digits;
      changes = c.loop-byte.invariant.changes;
      seen = c.loop-byte.invariant.seen;
    }

pub loop-byte-preserved-then-byte-begin : goal.loop-byte-preserved-then-byte-begin
loop-byte-preserved-then-byte-begin t c =
    let ends = ends_as c.in_ok-first_level.first_level.digits.items c.deref-in-loop-byte.result.now c.loop-byte.byte true
    (c.deref-in-loop-byte.ensures.value ∙ c.in_ok-ends.ensures ∙ c.deref-2.ensures.value) c.if-not-ends_part.ensures in
    let short : nat_lt (c.loop-byte.begin + 1) c.loop-byte.byte ≡ false = grind (arith, nat_tests, c.if-byte-begin.true) in
    record {
      parted = parted_short _ _ _ _ _ ends short c.loop-byte.invariant.parted;
      begun = omega arith;
      digits = c.loop-byte.invariant.digits;
      changes = c.loop-byte.invariant.changes;
      seen = c.loop-byte.invariant.seen;
    }

pub loop-byte-preserved : goal.loop-byte-preserved
loop-byte-preserved t c =
    let rules = c.args.levels.dictionary.now in
    let minima = minima_of c.args.levels in
    let asked = asked_in c.args.asked in
    let ask = ask_at rules minima c.args.depth in
    let byte = c.loop-byte.byte in
    let begin = c.loop-byte.begin in
    let found = found_of c.loop-byte.found in
    let texts = texts_of c.in_ok-texts.texts in
    let ends = ends_as c.in_ok-first_level.first_level.digits.items c.deref-in-loop-byte.result.now c.loop-byte.byte true
    (c.deref-in-loop-byte.ensures.value ∙ c.in_ok-ends.ensures ∙ c.deref-2.ensures.value) c.if-not-ends_part.ensures in
    let long : nat_lt (c.loop-byte.begin + 1) c.loop-byte.byte ≡ true = grind (arith, nat_tests, c.if-byte-begin.false) in
    let change = c.index-change.result.now in
    let change_at : change ≡ slice_index_or c.loop-byte.found.changes.items byte change = search (rules, c.index-change.ensures) in
    let within : byte < length c.loop-byte.found.changes.items = omega arith in
    let change_is : option_map placed change ≡ slice_index_or found.changes byte None = placed_at c.loop-byte.found.changes.items byte change within change_at in
    let texts_is : texts ≡ part_text c.loop-byte.seen.items begin (byte + 1) (option_map placed change) =
    c.in_ok-texts.ensures ∙ ap (λ s. part_text s begin (byte + 1) (option_map placed change)) c.deref-in-loop-byte-2.ensures.value in
    let part = asked_of asked begin (byte + 1) texts in
    let after : found_of c.if-depth-gt0.found ≡ with_part found begin (byte - begin - 1) (ask found.parts part) =
    elim c.if-depth-gt0.branch [
      | then-depth-gt0+then-found-gt0+in_ok-inner w ↦
          let deep : c.args.depth ≡ suc (c.args.depth - 1) = omega arith in
          let left : c.loop-byte.found.parts ≡ suc (c.loop-byte.found.parts - 1) = omega arith in
          with_some found (found_of c.if-depth-gt0.found) (found_of w.in_ok-inner.inner) begin (byte - begin - 1) (ask found.parts part)
          (asked_some rules minima c.args.depth c.loop-byte.found.parts (c.args.depth - 1) (c.loop-byte.found.parts - 1) part deep left
          ∙ ap Some (ap (found_in rules minima (c.args.depth - 1) (c.loop-byte.found.parts - 1)) (sym c.part_of-part.ensures) ∙ sym w.in_ok-inner.ensures.found))
          (ap found_of w.found-is ∙ w.put_part.ensures.found)
      | else-depth-gt0 w ↦ elim w.else-depth-gt0.branch [
        | else-depth-gt0-via-then-depth-gt0+else-found-gt0 v ↦
            let none : c.loop-byte.found.parts ≡ 0 = omega arith in
            ap found_of w.found-is ∙ with_none found begin (byte - begin - 1) (ask found.parts part) (asked_none_left rules minima c.args.depth c.loop-byte.found.parts part none)
        | else-depth-gt0-via-else-depth-gt0 v ↦
            let none : c.args.depth ≡ 0 = omega arith in
            ap found_of w.found-is ∙ with_none found begin (byte - begin - 1) (ask found.parts part) (asked_none_deep rules minima c.args.depth c.loop-byte.found.parts part none)
      ]
    ] in
    let digits : length c.if-depth-gt0.found.digits.items ≡ length c.args.asked.text.now =
    elim c.if-depth-gt0.branch [
      | then-depth-gt0+then-found-gt0+in_ok-inner w ↦ ap (λ f. length f.digits.items) w.found-is ∙ w.put_part.ensures.digits ∙ c.loop-byte.invariant.digits
      | else-depth-gt0 w ↦ ap (λ f. length f.digits.items) w.found-is ∙ c.loop-byte.invariant.digits
    ] in
    let changes : length c.if-depth-gt0.found.changes.items ≡ length c.args.asked.text.now =
    elim c.if-depth-gt0.branch [
      | then-depth-gt0+then-found-gt0+in_ok-inner w ↦ ap (λ f. length f.changes.items) w.found-is ∙ w.put_part.ensures.changes ∙ c.loop-byte.invariant.changes
      | else-depth-gt0 w ↦ ap (λ f. length f.changes.items) w.found-is ∙ c.loop-byte.invariant.changes
    ] in
    let seen_is : c.in_ok-seen-2.seen.items ≡ seen_after asked c.loop-byte.seen.items (byte + 1) (option_map placed c.index-change.result.now) = c.in_ok-seen-2.ensures.seen in
    record {
      parted = parted_asked _ _ _ _ _ _ _ _ _ ends long c.loop-byte.invariant.parted change_is texts_is after seen_is;
      begun = omega arith;
      digits = digits;
      changes = changes;
      seen = c.in_ok-seen-2.ensures.length;
    }

pub returns-clause-found : goal.returns-clause-found
returns-clause-found t c =
    let rules = c.args.levels.dictionary.now in
    let minima = minima_of c.args.levels in
    let asked = asked_in c.args.asked in
    let ask = ask_at rules minima c.args.depth in
    let first_level = found_of c.in_ok-first_level.first_level in
    let odd : list_any is_odd first_level.digits ≡ true = cc (c.deref.ensures.value) in
    let end : c.loop-byte.byte ≡ length asked.text = omega arith in
    found_parted rules minima c.args.depth c.args.parts asked first_level _ _ _ c.in_ok-first_level.ensures.found odd
    (ap (parted_up_to ask asked first_level) (sym end) ∙ c.loop-byte.invariant.parted)
