use Rattle.std.proofs.lemmas.Grind.{common_steps}
use Rattle.std.proofs.Common.{rules, arith, refl, length, ◌<◌, ◌≡◌}
use Rattle.std.specs.Str.{IsAscii}
use Rattle.std.specs.Str.Iter.{char_indices_rest, char_indices_offset}
use Rattle.hyphenation_hyphenator.proofs.SoftHyphens.{none_in_ascii, passed, found, one_met, none_found, some_left, searched_whole, ascending, within}
use Rattle.hyphenation_hyphenator.proofs.soft_hyphens.soft_hyphen_indices.Goals as goal

pub loop-place-preserved-in-Continue-1 : goal.loop-place-preserved-in-Continue-1
loop-place-preserved-in-Continue-1 c =
    let next = found _ _ (char_indices_rest c.next.new.self) _ (char_indices_offset c.next.new.self) c.in-Some.c _ c.loop-place.invariant.holds (search rules) (search rules) _ (search rules) (search rules) in
    record { can = omega (arith, next.left, c.loop-place.invariant.holds.left, c.loop-place.invariant.can); finite = tt; holds = next }

pub loop-place-preserved : goal.loop-place-preserved
loop-place-preserved c =
    let next = passed _ _ (char_indices_rest c.next.new.self) _ (char_indices_offset c.next.new.self) c.in-Some.c _ c.loop-place.invariant.holds (search rules) (search rules) (search rules) in
    record { can = omega (arith, next.left, c.loop-place.invariant.holds.left, c.loop-place.invariant.can); finite = tt; holds = next }

pub returns-in_err-push-clause-none_without : goal.returns-in_err-push-clause-none_without
returns-in_err-push-clause-none_without c = λ none. absurd (one_met _ _ (char_indices_rest c.next.new.self) _ (char_indices_offset c.next.new.self) c.in-Some.c _ c.loop-place.invariant.holds (search rules) (search rules) (search rules) none)

pub returns-then-is_empty-clause-some_if_any : goal.returns-then-is_empty-clause-some_if_any
returns-then-is_empty-clause-some_if_any c =
    let empty : length c.loop-place.places.items ≡ 0 = search rules in
    let none = none_found _ _ _ _ c.loop-place.invariant.holds (search rules) empty in
    (λ f. cc, λ some. absurd (some none))

pub returns-clause-places : goal.returns-clause-places
returns-clause-places c = searched_whole _ _ _ _ c.loop-place.invariant.holds (search rules)

pub returns-clause-ascending : goal.returns-clause-ascending
returns-clause-ascending c = rw (returns-clause-places c) (ascending c.args.word.now)

pub returns-clause-within_word : goal.returns-clause-within_word
returns-clause-within_word c = rw (returns-clause-places c) (within c.args.word.now c.utf8.word)

pub returns-clause-some_if_any : goal.returns-clause-some_if_any
returns-clause-some_if_any c =
    let some : 0 < length c.loop-place.places.items = search rules in
    let left = some_left _ _ _ _ c.loop-place.invariant.holds (search rules) some in
    (λ t. left, λ t. refl)

pub returns-clause-none_without : goal.returns-clause-none_without
returns-clause-none_without c =
    let some : 0 < length c.loop-place.places.items = search rules in
    let left = some_left _ _ _ _ c.loop-place.invariant.holds (search rules) some in
    λ none. absurd (left none)

pub returns-then-is_ascii-clause-some_if_any : goal.returns-then-is_ascii-clause-some_if_any
returns-then-is_ascii-clause-some_if_any c =
    let ascii : IsAscii c.args.word.now = search rules in
    (λ f. cc, λ some. absurd (some (none_in_ascii c.args.word.now ascii)))

pub returns-then-is_ascii-clause-none_without : goal.returns-then-is_ascii-clause-none_without
returns-then-is_ascii-clause-none_without c = grind (arith, common_steps)

pub next-requires : goal.next-requires
next-requires c = grind (arith, common_steps)

pub returns-in_err-push-clause-places : goal.returns-in_err-push-clause-places
returns-in_err-push-clause-places c = grind (arith, common_steps)

pub returns-in_err-push-clause-some_if_any : goal.returns-in_err-push-clause-some_if_any
returns-in_err-push-clause-some_if_any c = grind (arith, common_steps)

pub returns-in_err-push-clause-ascending : goal.returns-in_err-push-clause-ascending
returns-in_err-push-clause-ascending c = grind (arith, common_steps)

pub returns-in_err-push-clause-within_word : goal.returns-in_err-push-clause-within_word
returns-in_err-push-clause-within_word c = grind (arith, common_steps)

pub returns-then-is_empty-clause-none_without : goal.returns-then-is_empty-clause-none_without
returns-then-is_empty-clause-none_without c = grind (arith, common_steps)
