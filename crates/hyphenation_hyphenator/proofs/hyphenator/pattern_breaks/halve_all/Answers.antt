use Rattle.std.proofs.Common.{◌/◌, ◌≤◌, ℕ, ◌++◌, length, map, take, get_or, ap, ◌∙◌, arith}
use Rattle.std.proofs.lemmas.List.{append-nil, drop_all, get_or_default, take_all}
use Rattle.std.proofs.lemmas.List.Edits.{map_over_more}
use Rattle.hyphenation_hyphenator.proofs.hyphenator.pattern_breaks.halve_all.Goals as goal

pub loop-rank-preserved : goal.loop-rank-preserved
loop-rank-preserved c =
    let items = c.loop-rank.rank-items in
    let i = c.loop-rank.rank-index in
    map_over_more (λ (rank : ℕ). rank / 2) c.args.ranks.now items i (get_or items i 0) (omega arith) c.loop-rank.invariant (get_or_default items i 0 (get_or items i 0) (omega arith))

pub returns : goal.returns
returns c =
    let ranks = c.args.ranks.now in
    let half : ℕ → ℕ = λ rank. rank / 2 in
    let i = c.loop-rank.rank-index in
    let all : length ranks ≤ i = omega arith in
    c.loop-rank.invariant
    ∙ ap (λ rest. map half (take i ranks) ++ rest) (drop_all i ranks all) ∙ append-nil (map half (take i ranks))
    ∙ ap (map half) (take_all i ranks all)
