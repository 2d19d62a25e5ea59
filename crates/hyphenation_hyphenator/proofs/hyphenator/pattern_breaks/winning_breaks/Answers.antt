use Rattle.std.proofs.Common.{◌∙◌, None, arith, replicate, List, Option, Bor}
use Rattle.std.proofs.lemmas.List.{length-take, get_or-take, get_or-replicate}
use Rattle.hyphenation_breaks.specs.Break.{Change}
use Rattle.hyphenation_breaks.specs.declared.entry.Entry.{Entry}
use Rattle.hyphenation_hyphenator.proofs.hyphenator.pattern_breaks.winning_breaks.Goals as goal

pub winning_breaks_with_buffer-requires-clause-none_at_first : goal.winning_breaks_with_buffer-requires-clause-none_at_first
winning_breaks_with_buffer-requires-clause-none_at_first c = λ i lt.
    let places = c.saturating_sub-places.result in
    let none : List (Option (Bor (Entry (Option Change)))) = replicate 32 None in
    get_or-take places none i None (omega (arith, lt, length-take places none)) ∙ get_or-replicate 32 i None None (omega (arith, lt, length-take places none))
