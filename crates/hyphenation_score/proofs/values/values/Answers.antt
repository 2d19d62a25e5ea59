use Rattle.std.proofs.Common.{◌≡◌, ◌-◌, length, sym, ap, ◌∙◌}
use Rattle.hyphenation_breaks.specs.Dictionary.{entries_of_keys, longest_key}
use Rattle.hyphenation_trie.specs.Trie.{entries_of_key}
use Rattle.hyphenation_score.specs.Scoring.{frame, values}
use Rattle.hyphenation_score.specs.OnePass.{occurrences}
use Rattle.hyphenation_score.proofs.NoKeys.{none_at_all}
use Rattle.hyphenation_score.proofs.Counting.{counts_same}
use Rattle.hyphenation_score.proofs.OnePass.{values_same, occurrences_same}
use Rattle.hyphenation_score.proofs.ValuesInOrder.{length-values, ok_same, ok_then}
use Rattle.hyphenation_score.proofs.values.values.Goals as goal

pub returns-clause-values : goal.returns-clause-values
returns-clause-values c =
    let keys = entries_of_keys c.args.dictionary.now in
    let known = entries_of_key c.patterns_of.result.0.now in
    ok_same c.values_of.result (λ v. v.items) (values known c.as_bytes.result.now) (values keys c.args.word.now)
    (ap (values known) c.as_bytes.ensures.value ∙ values_same known keys c.args.word.now (λ text. sym (c.patterns_of.ensures.known text))) c.values_of.ensures.values

pub returns-clause-places : goal.returns-clause-places
returns-clause-places c =
    let keys = entries_of_keys c.args.dictionary.now in
    ok_then c.values_of.result (λ v. v.items ≡ values keys c.args.word.now) (λ v. length v.items ≡ length c.args.word.now - 1)
    (λ v is. ap length is ∙ length-values keys c.args.word.now) (returns-clause-values c)

pub returns-clause-counts : goal.returns-clause-counts
returns-clause-counts c =
    let contents = c.args.dictionary.now in
    let keys = entries_of_keys contents in
    let known = entries_of_key c.patterns_of.result.0.now in
    let same = ap (λ w. occurrences known (frame w)) c.as_bytes.ensures.value ∙ occurrences_same known keys (frame c.args.word.now) (λ text. sym (c.patterns_of.ensures.known text)) in
    counts_same _ _ (longest_key contents) _ _ _ _ _ (ap length c.as_bytes.ensures.value) same
    (c.values_of.ensures.counts (longest_key contents) (λ zero_is q. sym (c.patterns_of.ensures.known q) ∙ none_at_all _ _ contents c.invariant.ensures zero_is q))
