use Rattle.std.proofs.Common.{◌≡◌, map, filter, Option, option_copied}
use Rattle.std.specs.List.{range_with_len}
use Rattle.hyphenation_breaks.specs.Break.{Change}
use Rattle.hyphenation_breaks.specs.declared.entry.Entry.{Entry}
use Rattle.hyphenation_score.specs.Scoring.{own_change}
use Rattle.hyphenation_hyphenator.specs.Private.Opportunities.{borrowed_break, break_at_index, has_break_at_index}
use Rattle.hyphenation_hyphenator.proofs.hyphenator.pattern_breaks.breaks_at_winners.Given as goal

abbrev pub invariant-loop-index : goal.invariant-loop-index
invariant-loop-index l =
    map borrowed_break l.breaks.items ≡ map (break_at_index own_change (map (option_copied {T = Entry (Option Change)}) l.winners)) (filter (has_break_at_index (map (option_copied {T = Entry (Option Change)}) l.winners) l.fn.bounds) (range_with_len 0 l.index))
