use Rattle.std.proofs.Common.{◌∙◌, ap}
use Rattle.hyphenation_trie.specs.Trie.{entries_of_key}
use Rattle.hyphenation_score.specs.Scoring.{own_change, winners}
use Rattle.hyphenation_hyphenator.proofs.BreaksFound.{breaks_at_winners_are}
use Rattle.hyphenation_hyphenator.proofs.Standard.{on_ok_then}
use Rattle.hyphenation_hyphenator.proofs.hyphenator.pattern_breaks.winning_breaks_with_buffer.Goals as goal

pub returns : goal.returns
returns c =
    let keys = entries_of_key c.args.patterns.now in
    on_ok_then c.breaks_at_winners.result _ _
    (λ h. h ∙ breaks_at_winners_are own_change keys c.args.word.now c.args.bounds _ c.winner_has_value.ensures (c.compete_all.ensures.winners ∙ ap (winners keys) c.as_bytes.ensures.value))
    c.breaks_at_winners.ensures
