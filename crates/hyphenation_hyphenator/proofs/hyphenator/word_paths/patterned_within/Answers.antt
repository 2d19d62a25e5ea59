use Rattle.std.proofs.Common.{◌≡◌, map, sym, ap, ◌∙◌}
use Rattle.hyphenation_breaks.specs.Dictionary.{entries_of_keys}
use Rattle.hyphenation_trie.specs.Trie.{entries_of_key}
use Rattle.hyphenation_hyphenator.specs.Opportunities.{breaks_within, breaks_at_odd_values}
use Rattle.hyphenation_hyphenator.proofs.BreaksFound.{pattern_breaks_ascend}
use Rattle.hyphenation_hyphenator.proofs.Standard.{on_ok_then}
use Rattle.hyphenation_hyphenator.proofs.hyphenator.word_paths.patterned_within.Goals as goal

pub returns-clause-breaks : goal.returns-clause-breaks
returns-clause-breaks g c =
    let word = c.args.word.now in
    let same : entries_of_key c.patterns_of.result.0.now ≡ entries_of_keys c.args.dictionary.now = λ k text. sym (c.patterns_of.ensures.known text) k in
    on_ok_then c.pattern_breaks.result _ _ (λ h. h ∙ ap (λ keys. breaks_within (breaks_at_odd_values g.F.Payload.Payload.change_of keys word) c.args.bounds) same) c.pattern_breaks.ensures

pub returns-clause-ascend : goal.returns-clause-ascend
returns-clause-ascend g c =
    on_ok_then c.pattern_breaks.result _ _
    (λ is. pattern_breaks_ascend g.F.Payload.Payload.change_of g.F.Listing.Break.meaning c.args.dictionary.now c.args.word.now c.args.bounds (map g.F.Break.meaning c.pattern_breaks.new.list.items) c.value_is_borne.ensures c.invariant.ensures c.utf8.word is)
    (returns-clause-breaks g c)
