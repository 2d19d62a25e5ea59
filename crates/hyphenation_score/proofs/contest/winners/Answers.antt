use Rattle.std.proofs.Common.{◌≡◌, ◌-◌, length, map, sym, ap, ◌∙◌}
use Rattle.std.proofs.lemmas.List.{length-map}
use Rattle.std.specs.Option.{option_copied}
use Rattle.hyphenation_breaks.specs.Dictionary.{entries_of_keys, longest_key}
use Rattle.hyphenation_trie.specs.Trie.{entries_of_key}
use Rattle.hyphenation_score.specs.Scoring.{frame, winners}
use Rattle.hyphenation_score.specs.OnePass.{occurrences}
use Rattle.hyphenation_score.proofs.NoKeys.{none_at_all}
use Rattle.hyphenation_score.proofs.Counting.{counts_same}
use Rattle.hyphenation_score.proofs.OnePass.{occurrences_same}
use Rattle.hyphenation_score.proofs.ValuesInOrder.{length-winners, winners_same, ok_same, ok_then}
use Rattle.hyphenation_score.proofs.contest.winners.Goals as goal

pub returns-clause-winners : goal.returns-clause-winners
returns-clause-winners g c =
    let keys = entries_of_keys c.args.dictionary.now in
    let known = entries_of_key c.automaton_of.result.now in
    ok_same c.winners_in.result (λ v. map option_copied v.items) (winners known c.as_bytes.result.now) (winners keys c.args.word.now)
    (ap (winners known) c.as_bytes.ensures.value ∙ winners_same known keys c.args.word.now (λ text. sym (c.automaton_of.ensures.known text))) c.winners_in.ensures.winners

pub returns-clause-places : goal.returns-clause-places
returns-clause-places g c =
    let keys = entries_of_keys c.args.dictionary.now in
    ok_then c.winners_in.result (λ v. map option_copied v.items ≡ winners keys c.args.word.now) (λ v. length v.items ≡ length c.args.word.now - 1)
    (λ v is. sym (length-map v.items option_copied) ∙ ap length is ∙ length-winners keys c.args.word.now) (returns-clause-winners g c)

pub returns-clause-counts : goal.returns-clause-counts
returns-clause-counts g c =
    let contents = c.args.dictionary.now in
    let keys = entries_of_keys contents in
    let known = entries_of_key c.automaton_of.result.now in
    let same = ap (λ w. occurrences known (frame w)) c.as_bytes.ensures.value ∙ occurrences_same known keys (frame c.args.word.now) (λ text. sym (c.automaton_of.ensures.known text)) in
    counts_same _ _ (longest_key contents) _ _ _ _ _ (ap length c.as_bytes.ensures.value) same
    (c.winners_in.ensures.counts (longest_key contents) (λ zero_is q. sym (c.automaton_of.ensures.known q) ∙ none_at_all g.C.Payload.change_of g.B.Break.meaning contents c.invariant.ensures zero_is q))
