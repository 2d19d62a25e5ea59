use Rattle.std.proofs.Common.{map, length, ap, ◌∙◌}
use Rattle.hyphenation_hyphenator.specs.Fitting.{kept_breaks}
use Rattle.hyphenation_hyphenator.specs.Private.Fitting.{range_holds_no_shift}
use Rattle.hyphenation_hyphenator.specs.Private.Opportunities.{realigned_break}
use Rattle.hyphenation_hyphenator.proofs.FittedBreaks.{whole_written}
use Rattle.hyphenation_hyphenator.proofs.hyphenator.word_paths.breaks_of_folded.Goals as goal

pub returns : goal.returns
returns g c =
    let m = g.F.Break.meaning in
    let shifts = c.args.shifts.now in
    let size = length c.args.folded.now in
    let written = whole_written c.keep_fitting.new.list.len c.realign_all.new.breaks c.keep_fitting.new.list.items (c.realign_all.auto.breaks ∙ c.deref_mut.ensures.len) in
    ap (map m) written ∙ c.realign_all.ensures
    ∙ ap (map (realigned_break shifts)) (ap (map m) c.deref_mut.ensures.value ∙ c.in_ok-keep_fitting.ensures ∙ ap (kept_breaks (range_holds_no_shift size shifts)) c.in_ok-put_opportunities.ensures.breaks)
