use Rattle.std.proofs.Common.{◌≡◌, ℕ, ◌+◌, ◌-◌, List, drop, filter, length, map, take, ap, ◌∙◌, arith}
use Rattle.std.specs.List.{range_with_len}
use Rattle.hyphenation_breaks.specs.Break.{plain_break}
use Rattle.hyphenation_trie.specs.Trie.{entries_of_key}
use Rattle.hyphenation_score.specs.Scoring.{values}
use Rattle.hyphenation_hyphenator.specs.Opportunities.{no_change}
use Rattle.hyphenation_hyphenator.proofs.OddPlaces.{places_allowed, test_of, winners_have_no_change}
use Rattle.hyphenation_hyphenator.proofs.Standard.{on_ok_then}
use Rattle.hyphenation_hyphenator.proofs.hyphenator.pattern_breaks.plain_breaks_with_buffer.Goals as goal

pub returns : goal.returns
returns c =
    let keys = entries_of_key c.args.patterns.now in
    let list : List ℕ = c.put_values.new.list in
    let count : (16 + c.saturating_sub-end.result) - 16 ≡ length c.as_bytes.result.now - 1 = omega (arith, c.saturating_sub-end.ensures, ap length c.as_bytes.ensures.value) in
    let found = ap (λ (n : ℕ). take n (drop 16 list)) count ∙ c.put_values.ensures.values ∙ ap (values keys) c.as_bytes.ensures.value in
    on_ok_then c.odd_places.result _ _
    (λ h. h ∙ ap (λ vs. map plain_break (filter (test_of vs c.args.bounds) (range_with_len 1 (length vs)))) found ∙ places_allowed no_change keys c.args.word.now c.args.bounds (λ p _ _ _. winners_have_no_change keys c.args.word.now p))
    c.odd_places.ensures
