use Rattle.std.proofs.Common.{◌≡◌, ℕ, ◌-◌, length, map, sym, ap, ◌∙◌}
use Rattle.std.proofs.lemmas.List.{length-map}
use Rattle.hyphenation_breaks.specs.Break.{break_at}
use Rattle.hyphenation_breaks.specs.Dictionary.{entries_of_keys, longest_key}
use Rattle.hyphenation_trie.specs.Trie.{entries_of_key}
use Rattle.hyphenation_score.specs.OnePass.{occurrences}
use Rattle.hyphenation_score.specs.Scoring.{frame, own_change, score_of_winner, scored_pair, scores, winners}
use Rattle.hyphenation_score.proofs.NoKeys.{none_at_all}
use Rattle.hyphenation_score.proofs.Counting.{counts_same}
use Rattle.hyphenation_score.proofs.OnePass.{occurrences_same}
use Rattle.hyphenation_score.proofs.ValuesInOrder.{length-winners, winners_same, ok_same, ok_then}
use Rattle.hyphenation_score.proofs.scores.Goals as goal

pub returns-clause-scores : goal.returns-clause-scores
returns-clause-scores c =
    let keys = entries_of_keys c.args.dictionary.now in
    let known = entries_of_key c.automaton_of.result.now in
    ok_same c.scores_in.result (λ v. map scored_pair v.items) (scores own_change known c.as_bytes.result.now) (scores own_change keys c.args.word.now)
    (ap (λ word. scores own_change known word) c.as_bytes.ensures.value ∙ ap (map (score_of_winner own_change)) (winners_same known keys c.args.word.now (λ text. sym (c.automaton_of.ensures.known text)))) c.scores_in.ensures.scores

pub returns-clause-places : goal.returns-clause-places
returns-clause-places c =
    let keys = entries_of_keys c.args.dictionary.now in
    ok_then c.scores_in.result (λ v. map scored_pair v.items ≡ scores own_change keys c.args.word.now) (λ v. length v.items ≡ length c.args.word.now - 1)
    (λ v is. sym (length-map v.items scored_pair) ∙ ap length is ∙ length-map (winners keys c.args.word.now) (score_of_winner own_change) ∙ length-winners keys c.args.word.now) (returns-clause-scores c)

pub returns-clause-counts : goal.returns-clause-counts
returns-clause-counts c =
    let contents = c.args.dictionary.now in
    let keys = entries_of_keys contents in
    let known = entries_of_key c.automaton_of.result.now in
    let same = ap (λ w. occurrences known (frame w)) c.as_bytes.ensures.value ∙ occurrences_same known keys (frame c.args.word.now) (λ text. sym (c.automaton_of.ensures.known text)) in
    counts_same _ _ (longest_key contents) _ _ _ _ _ (ap length c.as_bytes.ensures.value) same
    (c.scores_in.ensures.counts (longest_key contents) (λ zero_is q. sym (c.automaton_of.ensures.known q) ∙ none_at_all own_change (λ (listed : ℕ × _). break_at listed.0 listed.1) contents c.invariant.ensures zero_is q))
