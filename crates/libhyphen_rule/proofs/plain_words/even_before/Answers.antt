use Rattle.std.proofs.Common.{◌≡◌, ◌∙◌, ℕ, ◌+◌, ◌≤◌, List, length, take, drop, sym, arith, length-drop}
use Rattle.std.proofs.lemmas.List.{length-take-le}
use Rattle.std.proofs.lemmas.Simd.{none_from_empty_mask, run_in_chunk_fails, run_in_chunk_stops}
use Rattle.libhyphen_rule.proofs.OddLanes.{first_odd, odd_lane, odd_lane_is, odd_mask}
use Rattle.libhyphen_rule.proofs.plain_words.even_before.Goals as goal

lanes_long : (list : List ℕ) (at : ℕ) → at + 16 ≤ length list → length (take 16 (drop at list)) ≡ 16
lanes_long list at room = length-take-le 16 (drop at list) (omega (arith, length-drop at list, room))

pub returns-then-odd-eq0-clause-before : goal.returns-then-odd-eq0-clause-before
returns-then-odd-eq0-clause-before c i from next_level =
    let list = c.args.list.now in
    let at = c.args.at in
    let lanes : List ℕ = take 16 (drop at list) in
    let long : length lanes ≡ 16 = lanes_long list at c.requires in
    sym (odd_lane_is _)
    ∙ none_from_empty_mask odd_lane list at 16 0 c.requires (sym (odd_mask lanes long) ∙ c.if-odd-eq0.true) i from next_level

pub returns-clause-before : goal.returns-clause-before
returns-clause-before c i from next_level =
    let list = c.args.list.now in
    let at = c.args.at in
    let lanes : List ℕ = take 16 (drop at list) in
    let long : length lanes ≡ 16 = lanes_long list at c.requires in
    sym (odd_lane_is _)
    ∙ run_in_chunk_fails odd_lane list at 16 _ 0 c.requires (first_odd _ lanes long (odd_mask lanes long) c.if-odd-eq0.false) i from next_level

pub returns-clause-there : goal.returns-clause-there
returns-clause-there c next_level =
    let list = c.args.list.now in
    let at = c.args.at in
    let lanes : List ℕ = take 16 (drop at list) in
    let long : length lanes ≡ 16 = lanes_long list at c.requires in
    sym (odd_lane_is _)
    ∙ run_in_chunk_stops odd_lane list at 16 _ 0 c.requires (first_odd _ lanes long (odd_mask lanes long) c.if-odd-eq0.false) next_level
