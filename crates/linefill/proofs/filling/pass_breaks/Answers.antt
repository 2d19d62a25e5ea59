use Rattle.std.proofs.Common.{◌≡◌, ℕ, ◌<◌, true, sym, ap, ◌∙◌, arith}
use Rattle.std.proofs.lemmas.Bool.{or_right, false≢true, or_from}
use Rattle.std.proofs.lemmas.Option.{MatchOption-at_some}
use Rattle.linefill.specs.Cuts.{word_breaks, is_one_of, is_plain, is_cut}
use Rattle.linefill.specs.Private.Filling.{FillState, state_after_cut, all_lines}
use Rattle.linefill.specs.Private.OpenLine.{state_of}
use Rattle.linefill.specs.Private.WordBreaks.{remaining_breaks}
use Rattle.linefill.proofs.FillWalk.{IsState, cut_boundary, passing_end, passing_lines}
use Rattle.linefill.proofs.TextBreaks.{sound}
use Rattle.linefill.proofs.filling.pass_breaks.Goals as goal

pub pass_cut-requires-clause-at_character : goal.pass_cut-requires-clause-at_character
pass_cut-requires-clause-at_character g c =
    let text = c.args.text.now in
    let breaks_of = g.H.Hyphenator.breaks_of c.args.dictionary.now in
    let breaks = word_breaks breaks_of text in
    let place = c.in-Some.place in
    let found = MatchOption-at_some _ _ place c.in-Some.is c.in_ok-place.ensures.first in
    let among : is_one_of place breaks ≡ true = sym (c.loop-place.invariant.breaks.stay place found.after) ∙ sym (c.in_ok-place.ensures.later_breaks_stay place found.after) ∙ found.among in
    cut_boundary text c.args.columns breaks place (sound breaks_of text c.pieces_are_slices.ensures.slices c.plain_breaks_fit_where_ascending.ensures c.utf8.text c.requires.ascend) (omega (arith, found.after)) (or_right (is_plain text place) (is_one_of place breaks) among)

pub loop-place-preserved : goal.loop-place-preserved
loop-place-preserved g c =
    let text = c.args.text.now in
    let columns = c.args.columns in
    let breaks_of = g.H.Hyphenator.breaks_of c.args.dictionary.now in
    let breaks = word_breaks breaks_of text in
    let before = c.loop-place.invariant in
    let place = c.in-Some.place in
    let found = MatchOption-at_some _ _ place c.in-Some.is c.in_ok-place.ensures.first in
    let same : (p : ℕ) → c.loop-place.current.end < p → is_one_of p breaks ≡ is_one_of p (remaining_breaks breaks_of c.first_after.new.self) =
    λ p lt. sym (before.breaks.stay p lt) ∙ sym (c.in_ok-place.ensures.later_breaks_stay p lt) in
    let cut : is_cut text breaks place ≡ true = or_right (is_plain text place) (is_one_of place breaks) (same place found.after ∙ found.among) in
    let s = state_of c.loop-place.current c.loop-place.lines.items in
    let is : IsState text s = record { order = before.line.order; start = before.line.start; end = before.line.end } in
    let then : state_of c.in_ok-current.current c.pass_cut.new.lines.items ≡ state_after_cut text columns s place = c.in_ok-current.ensures.state in
    let reached : c.in_ok-current.current.end ≡ place = ap (λ (v : FillState). v.end) then ∙ passing_end text columns s place in
    let goes = passing_lines text columns breaks s place (sound breaks_of text c.pieces_are_slices.ensures.slices c.plain_breaks_fit_where_ascending.ensures c.utf8.text c.requires.ascend) is found.after cut
    (λ p l u h. false≢true (sym (or_from (is_plain text p) (is_one_of p breaks) (c.requires.no_plain_cut p (omega (arith, before.onward)) (omega (arith, c.if-until-place.false))) (same p l ∙ found.first p l u)) ∙ h)) in
    record {
      same = ap (all_lines text columns breaks) then ∙ goes ∙ before.same;
      line = c.in_ok-current.ensures.open_line;
      breaks = record {
        order = c.in_ok-place.ensures.in_order;
        stay = λ p lt. c.in_ok-place.ensures.later_breaks_stay p (omega (arith, reached, found.after)) ∙ before.breaks.stay p (omega (arith, reached, found.after));
      };
      onward = omega (arith, reached, found.after, before.onward);
      before = omega (arith, reached, c.if-until-place.false);
    }
