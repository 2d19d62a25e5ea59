use Rattle.std.proofs.Common.{None, ◌≡◌, ℕ, ◌+◌, ◌-◌, ◌<◌, ◌≤◌, List, length, drop, get_or, true, false, Some, nat_lt, refl, sym, ap, ◌∙◌, arith, rules, suc}
use Rattle.std.proofs.lemmas.List.{length-drop, length-take-le}
use Rattle.std.proofs.lemmas.Bool.Decides.{nat_tests}
use Rattle.std.specs.List.{list_any}
use Rattle.std.specs.Prelude.{IfNone, Option}
use Rattle.libhyphen_rule.specs.OneLevel.{is_odd}
use Rattle.libhyphen_rule.specs.Calls.{SomeMayCount}
use Rattle.libhyphen_rule.specs.Found.{asked_in, minima_of}
use Rattle.libhyphen_rule.specs.Parts.{ends_part, found_in, parted_up_to, with_part}
use Rattle.libhyphen_rule.specs.Private.PlainCompounds.{plain_found, plain_part_of}
use Rattle.libhyphen_rule.proofs.Partings.{ask_at, asked_some, asked_none_deep, asked_none_left, found_parted, parted_none, parted_past, parted_short, with_none, with_some}
use Rattle.libhyphen_rule.proofs.PlainCompounds.{ends_alike, has_parts, finds_plain, part_behind, part_has_no_digits, part_length, part_plain_put, parted_more, parting, put_back, put_back-behind, put_back-is, put_back-length, first_level_plain, part_some_may_count, whole_plain}
use Rattle.libhyphen_rule.proofs.plain_compounds.+plain_in.Goals as goal
use Rattle.libhyphen_rule.proofs.plain_compounds.+plain_in.Goals.{then-byte-begin+then-depth-gt0+then-left-gt0+in_ok-left, else-byte-begin, else-byte-begin-via-then-byte-begin+then-depth-gt0+else-left-gt0, else-byte-begin-via-then-byte-begin+else-depth-gt0, else-byte-begin-via-else-byte-begin}

-- No part is asked.
next_level_is : (t : ℕ) (c : goal.Else-not-plain_by_next_level t) → plain_found c.plain_by_next_level.new.digits c.args.parts
    ≡ found_in c.args.levels.dictionary.now (minima_of c.args.levels) c.args.depth c.args.parts (asked_in c.args.asked)
next_level_is t c =
    let long = c.read_plain_word.ensures.digits_length ∙ c.requires.digits in
    whole_plain c.args.levels.dictionary.now (minima_of c.args.levels) c.args.depth c.args.parts (asked_in c.args.asked) c.read_plain_word.new.digits c.plain_by_next_level.new.digits
    long
    (first_level_plain c.args.levels.dictionary.now c.args.parts c.args.asked.text.now c.read_plain_word.new.digits c.first_level.result.now c.first_level.ensures long
    c.in_ok-parted.ensures.digits c.in_ok-parted.ensures.changes)
    (search rules)
    (c.if-not-plain_by_next_level.ensures.found (search rules) c.args.parts)

pub returns-then-not-parted-clause-found : goal.returns-then-not-parted-clause-found
returns-then-not-parted-clause-found t c = finds_plain _ c.plain_by_next_level.new.digits c.args.parts (next_level_is t c)

pub returns-then-not-parted-clause-parts : goal.returns-then-not-parted-clause-parts
returns-then-not-parted-clause-parts t c = has_parts _ c.plain_by_next_level.new.digits c.args.parts (next_level_is t c)

pub loop-byte-init : goal.loop-byte-init
loop-byte-init t c = record {
  parted = parted_none _ _ _ _ (sym c.requires.text);
  begun = omega arith;
  long = c.read_plain_word.ensures.digits_length ∙ c.requires.digits;
  behind = λ k le. refl;
}

pub loop-byte-preserved-then-not-ends_part : goal.loop-byte-preserved-then-not-ends_part
loop-byte-preserved-then-not-ends_part t c =
    let long : length c.loop-byte.digits ≡ length c.read_plain_word.new.digits = c.loop-byte.invariant.long ∙ sym (c.read_plain_word.ensures.digits_length ∙ c.requires.digits) in
    let here : c.loop-byte.byte ≤ c.loop-byte.byte = omega arith in
    let ends = ends_alike c.read_plain_word.new.digits c.loop-byte.digits c.loop-byte.byte false long (c.loop-byte.invariant.behind c.loop-byte.byte here) c.if-not-ends_part.ensures in
    record {
      parted = parted_past _ _ _ _ _ ends c.loop-byte.invariant.parted;
      begun = omega arith;
      long = c.loop-byte.invariant.long;
      behind = λ k le. c.loop-byte.invariant.behind k (omega arith);
    }

pub plain_in-requires : goal.plain_in-requires
plain_in-requires t c =
    let part = asked_in c.part_of-part.result in
    let asked = asked_in c.args.asked in
    let begin = c.loop-byte.begin in
    let end : ℕ = c.loop-byte.byte + 1 in
    let is : part ≡ plain_part_of asked begin end = c.part_of-part.ensures in
    let begun : begin ≤ end = omega arith in
    let within : end ≤ length asked.text = omega arith in
    let size : length part.text ≡ end - begin = part_length asked part begin end is begun within in (
      omega arith,
      (
        part_has_no_digits asked part begin end is c.requires.text,
        (
          omega (arith, size, within, c.requires.short),
          (
            λ _. part_behind asked part begin end is,
            length-take-le (end - begin) (drop begin c.loop-byte.digits) (omega (arith, length-drop begin c.loop-byte.digits)) ∙ sym size,
          ),
        ),
      ),
    )

pub loop-byte-preserved : goal.loop-byte-preserved
loop-byte-preserved t c =
    let rules_are = c.args.levels.dictionary.now in
    let minima = minima_of c.args.levels in
    let asked = asked_in c.args.asked in
    let ask = ask_at rules_are minima c.args.depth in
    let byte : ℕ = c.loop-byte.byte in
    let begin : ℕ = c.loop-byte.begin in
    let left : ℕ = c.loop-byte.left in
    let now : List ℕ = c.loop-byte.digits in
    let first_level : List ℕ = c.read_plain_word.new.digits in
    let part = plain_part_of asked begin (byte + 1) in
    let same : length now ≡ length first_level = c.loop-byte.invariant.long ∙ sym (c.read_plain_word.ensures.digits_length ∙ c.requires.digits) in
    let here : byte ≤ byte = omega arith in
    let ends : ends_part first_level byte ≡ true = ends_alike first_level now byte true same (c.loop-byte.invariant.behind byte here) c.if-not-ends_part.ensures in
    elim c.if-byte-begin.branch [
      | then-byte-begin+then-depth-gt0+then-left-gt0+in_ok-left w ↦
          let inner : List ℕ = w.plain_in.new.digits in
          let inside = asked_in w.part_of-part.result in
          let is : inside ≡ part = w.part_of-part.ensures in
          let found = found_in rules_are minima (c.args.depth - 1) (left - 1) inside in
          let new : c.if-byte-begin.digits ≡ put_back now inner begin byte = w.digits-is in
          let within : byte < length now = omega arith in
          let inner_long : length inner ≡ byte + 1 - begin =
          w.plain_in.ensures.digits_length ∙ length-take-le (byte + 1 - begin) (drop begin now) (omega (arith, length-drop begin now)) in
          let long : nat_lt (begin + 1) byte ≡ true = grind (arith, nat_tests, w.if-byte-begin.true) in
          let deep : c.args.depth ≡ suc (c.args.depth - 1) = omega arith in
          let some : left ≡ suc (left - 1) = omega arith in
          let sized : length c.if-byte-begin.digits ≡ length now = ap length new ∙ put_back-length now inner begin byte inner_long (omega arith) within in
          let put : plain_found c.if-byte-begin.digits c.if-byte-begin.left ≡ with_part (plain_found now left) begin (byte - begin - 1) (ask left part) =
          with_some (plain_found now left) (plain_found c.if-byte-begin.digits c.if-byte-begin.left) found begin (byte - begin - 1) (ask left part)
          (asked_some rules_are minima c.args.depth left (c.args.depth - 1) (left - 1) part deep some
          ∙ ap (λ a. Some (found_in rules_are minima (c.args.depth - 1) (left - 1) a)) (sym is))
          (ap (plain_found c.if-byte-begin.digits) (w.left-is ∙ sym w.in_ok-left.ensures.parts)
          ∙ part_plain_put now c.if-byte-begin.digits inner left begin (byte - begin - 1) found w.in_ok-left.ensures.found sized
          (new ∙ put_back-is now inner begin byte inner_long (omega arith) within)) in
          record {
            parted = parted_more ask asked first_level now c.if-byte-begin.digits byte begin left c.if-byte-begin.left c.args.parts ends long c.loop-byte.invariant.parted put;
            begun = omega arith;
            long = sized ∙ c.loop-byte.invariant.long;
            behind = λ k le. ap (λ xs. get_or xs k 0) new ∙ put_back-behind now inner begin byte k inner_long (omega arith) within (omega arith) ∙ c.loop-byte.invariant.behind k (omega arith);
          }
      | else-byte-begin w ↦
          let none : ask left part ≡ None → nat_lt (begin + 1) byte ≡ true → parted_up_to ask asked (plain_found first_level c.args.parts) (byte + 1) ≡ parting now left (byte + 1) asked.text =
          λ is long. parted_more ask asked first_level now now byte begin left left c.args.parts ends long c.loop-byte.invariant.parted
          (with_none (plain_found now left) begin (byte - begin - 1) (ask left part) is) in
          let kept : parted_up_to ask asked (plain_found first_level c.args.parts) (byte + 1) ≡ parting now left (byte + 1) asked.text =
          elim w.else-byte-begin.branch [
            | else-byte-begin-via-then-byte-begin+then-depth-gt0+else-left-gt0 v ↦
                none (asked_none_left rules_are minima c.args.depth left part (omega arith)) (grind (arith, nat_tests, v.if-byte-begin.true))
            | else-byte-begin-via-then-byte-begin+else-depth-gt0 v ↦
                none (asked_none_deep rules_are minima c.args.depth left part (omega arith)) (grind (arith, nat_tests, v.if-byte-begin.true))
            | else-byte-begin-via-else-byte-begin v ↦
                parted_short ask asked (plain_found first_level c.args.parts) byte (parting now left begin asked.text) ends (grind (arith, nat_tests, v.if-byte-begin.false)) c.loop-byte.invariant.parted
          ] in
          record {
            parted = kept ∙ ap (λ xs. parting xs left (byte + 1) asked.text) (sym w.digits-is) ∙ ap (λ n. parting c.if-byte-begin.digits n (byte + 1) asked.text) (sym w.left-is);
            begun = omega arith;
            long = ap length w.digits-is ∙ c.loop-byte.invariant.long;
            behind = λ k le. ap (λ xs. get_or xs k 0) w.digits-is ∙ c.loop-byte.invariant.behind k (omega arith);
          }
    ]

-- All parts were asked.
found_is : (t : ℕ) (c : goal.After-loop-byte t) → plain_found c.loop-byte.digits c.loop-byte.left
    ≡ found_in c.args.levels.dictionary.now (minima_of c.args.levels) c.args.depth c.args.parts (asked_in c.args.asked)
found_is t c =
    let rules_are = c.args.levels.dictionary.now in
    let minima = minima_of c.args.levels in
    let asked = asked_in c.args.asked in
    let first_level = plain_found c.read_plain_word.new.digits c.args.parts in
    let odd : list_any is_odd c.read_plain_word.new.digits ≡ true = search rules in
    let end : c.loop-byte.byte ≡ length asked.text = omega arith in
    found_parted rules_are minima c.args.depth c.args.parts asked first_level (plain_found c.loop-byte.digits c.loop-byte.left) c.loop-byte.begin asked.text
    (first_level_plain rules_are c.args.parts asked.text c.read_plain_word.new.digits c.first_level.result.now c.first_level.ensures (c.read_plain_word.ensures.digits_length ∙ c.requires.digits)
    c.in_ok-parted.ensures.digits c.in_ok-parted.ensures.changes)
    odd
    (ap (parted_up_to (ask_at rules_are minima c.args.depth) asked first_level) (sym end) ∙ c.loop-byte.invariant.parted)

pub returns-clause-found : goal.returns-clause-found
returns-clause-found t c = finds_plain _ c.loop-byte.digits c.loop-byte.left (found_is t c)

pub returns-clause-parts : goal.returns-clause-parts
returns-clause-parts t c = has_parts _ c.loop-byte.digits c.loop-byte.left (found_is t c)

if_none : {A : Type 0} (o : Option A) (X : Type 0) → X → IfNone o X
if_none None X x = x
if_none (Some v) X x = tt

pub returns-in_err-left-clause-none : goal.returns-in_err-left-clause-none
returns-in_err-left-clause-none t c =
    let part = asked_in c.part_of-part.result in
    let asked = asked_in c.args.asked in
    let begin = c.loop-byte.begin in
    let end : ℕ = c.loop-byte.byte + 1 in
    let is : part ≡ plain_part_of asked begin end = c.part_of-part.ensures in
    let begun : begin ≤ end = omega arith in
    let within : end ≤ length asked.text = omega arith in
    if_none c.from_residual-in_err-left.result (SomeMayCount c.args.levels.dictionary.now asked.text)
    (part_some_may_count c.args.levels.dictionary.now asked part begin end is begun within c.in_err-left.ensures.none)
