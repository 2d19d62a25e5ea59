use Rattle.std.proofs.Common.{◌≡◌, ◌+◌, ◌∷◌, [], List, Option, None, map, filter, option_copied, sym, ap, ◌∙◌, arith}
use Rattle.std.specs.List.{range_with_len, slice_index_or}
use Rattle.std.specs.Option.{option_map}
use Rattle.std.proofs.lemmas.List.{length-map, get_or-map, map-append}
use Rattle.hyphenation_breaks.specs.Break.{Change}
use Rattle.hyphenation_breaks.specs.declared.entry.Entry.{Entry}
use Rattle.hyphenation_score.specs.Scoring.{own_change}
use Rattle.hyphenation_hyphenator.specs.Private.Opportunities.{borrowed_break, break_at_index, has_break_at_index}
use Rattle.hyphenation_hyphenator.proofs.BreaksFound.{break_at_next, no_break_at_next, none_before, none_after}
use Rattle.hyphenation_hyphenator.proofs.OddPlaces.{is_within}
use Rattle.hyphenation_hyphenator.proofs.hyphenator.pattern_breaks.breaks_at_winners.Goals.{in-Some+in_ok-push_with_room, in_default}
use Rattle.hyphenation_hyphenator.proofs.hyphenator.pattern_breaks.breaks_at_winners.Goals as goal

pub loop-index-init : goal.loop-index-init
loop-index-init c =
    let winners : List (Option (Entry (Option Change))) = map option_copied c.args.winners.now in
    ap (map borrowed_break) c.requires
    ∙ sym (ap (map (break_at_index own_change winners)) (none_before winners c.args.bounds c.min-first.result (omega arith)))

pub loop-index-preserved : goal.loop-index-preserved
loop-index-preserved c =
    let m = borrowed_break in
    let change_of = own_change in
    let winners : List (Option (Entry (Option Change))) = map option_copied c.args.winners.now in
    let i = c.loop-index.index in
    let winner = c.index-winners-index.result in
    let before = map m c.loop-index.breaks.items in
    let at : option_copied winner ≡ slice_index_or winners i None = ap option_copied c.index-winners-index.is ∙ sym (get_or-map option_copied c.args.winners.now i winner None (omega arith)) in
    let inside = is_within c.args.bounds.0 c.args.bounds.1 (i + 1) (omega arith) (omega arith) in
    elim c.match-break_at_winner.branch [
      | in-Some+in_ok-push_with_room w ↦
          rw (w.breaks-is, w.in_ok-push_with_room.ensures) (map-append m c.loop-index.breaks.items (w.in-Some.b ∷ [])
          ∙ break_at_next change_of winners c.args.bounds i before (m w.in-Some.b) (option_copied winner) at inside c.loop-index.invariant (sym (ap (option_map m) w.in-Some.is) ∙ c.break_at_winner.ensures))
      | in_default w ↦ rw w.breaks-is (no_break_at_next change_of winners c.args.bounds i before (option_copied winner) at inside c.loop-index.invariant (sym (ap (option_map m) w.in_default.is) ∙ c.break_at_winner.ensures))
    ]

pub returns : goal.returns
returns c =
    let winners : List (Option (Entry (Option Change))) = map option_copied c.args.winners.now in
    let all : c.loop-index.index ≡ c.min-end.result = omega arith in
    c.loop-index.invariant ∙ ap (λ n. map (break_at_index own_change winners) (filter (has_break_at_index winners c.args.bounds) (range_with_len 0 n))) all
    ∙ ap (map (break_at_index own_change winners)) (none_after winners c.args.bounds c.min-end.result (omega (arith, length-map c.args.winners.now (option_copied {T = Entry (Option Change)}))))
