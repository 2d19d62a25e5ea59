use Rattle.std.proofs.Common.{◌≡◌, ℕ, ◌+◌, ◌-◌, Bool, true, List, drop, length, map, take, Result, Ok, Err, IfOk, IsTrue, sym, ap, subst, ◌∙◌, arith}
use Rattle.std.specs.List.{list_all}
use Rattle.hyphenation_breaks.specs.Break.{plain_break}
use Rattle.hyphenation_breaks.specs.Ranks.{rank_with_change}
use Rattle.hyphenation_trie.specs.Trie.{entries_of_key}
use Rattle.hyphenation_score.specs.Scoring.{ranks}
use Rattle.hyphenation_hyphenator.specs.Private.Opportunities.{is_unchanged, odd_places, values_of_ranks}
use Rattle.hyphenation_hyphenator.proofs.PlacesByRanks.{breaks_of_word}
use Rattle.hyphenation_hyphenator.proofs.hyphenator.pattern_breaks.breaks_by_ranks.Goals as goal

where_all : {E : Type 0} (r : Result Bool E) (t : Bool) (P Q : Type 0) → (t ≡ true → P → Q) → IfOk r (λ all. all ≡ t) → IfOk r (λ all. IsTrue all → P) → IfOk r (λ all. IsTrue all → Q)
where_all (Ok all) t P Q f is p = λ yes. f (sym is ∙ yes) (p yes)
where_all (Err e) t P Q f is p = tt

pub returns-clause-all : goal.returns-clause-all
returns-clause-all c =
    let keys = entries_of_key c.args.patterns.now in
    let word = c.args.word.now in
    let bounds = c.args.bounds in
    let list : List ℕ = c.find_ranks.new.list in
    let given : List ℕ = take ((16 + c.saturating_sub-end.result) - 16) (drop 16 list) in
    let count : (16 + c.saturating_sub-end.result) - 16 ≡ length c.as_bytes.result.now - 1 = omega (arith, c.saturating_sub-end.ensures, ap length c.as_bytes.ensures.value) in
    let found : given ≡ ranks rank_with_change keys word = ap (λ (n : ℕ). take n (drop 16 list)) count ∙ c.find_ranks.ensures.ranks ∙ ap (ranks rank_with_change keys) c.as_bytes.ensures.value in
    where_all c.unchanged_breaks.result (list_all (is_unchanged given) (odd_places (values_of_ranks given) bounds)) _ _
    (λ all breaks.
    breaks ∙ ap (λ rs. map plain_break (odd_places (values_of_ranks rs) bounds)) found
    ∙ breaks_of_word keys word bounds c.ranks_show_changes.ensures (subst (λ rs. list_all (is_unchanged rs) (odd_places (values_of_ranks rs) bounds) ≡ true) found all))
    c.unchanged_breaks.ensures.unchanged c.unchanged_breaks.ensures.all
