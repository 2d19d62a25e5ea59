use Rattle.std.proofs.Common.{◌≡◌, ◌&&◌, nat_le, leb-true, cond, ◌∷◌, [], ◌++◌, map, sym, ap, subst, ◌∙◌}
use Rattle.std.proofs.lemmas.Bool.{and_parts}
use Rattle.std.proofs.lemmas.List.{take_all, map-append}
use Rattle.hyphenation_breaks.specs.Break.{begin_of, end_of}
use Rattle.hyphenation_hyphenator.specs.Fitting.{kept_breaks}
use Rattle.hyphenation_hyphenator.specs.Private.Fitting.{range_holds_no_shift}
use Rattle.hyphenation_hyphenator.proofs.Fitting.{EndsAt, ends_at_start, ends_at_next}
use Rattle.hyphenation_hyphenator.proofs.BreaksFound.{kept_more, some_if, none_if}
use Rattle.hyphenation_hyphenator.proofs.hyphenator.fitting.keep_fitting.Goals.{in-Some+in_ok-push, in_default}
use Rattle.hyphenation_hyphenator.proofs.hyphenator.fitting.keep_fitting.Goals as goal

pub loop-b-init : goal.loop-b-init
unfolding kept_breaks
loop-b-init g c =
    let none : map g.B.Break.meaning c.new-kept.result.items ≡ [] = ap (map g.B.Break.meaning) c.new-kept.ensures.items in
    record { all = none; ends = subst (λ kept. EndsAt kept 0) (sym none) ends_at_start }

pub loop-b-preserved : goal.loop-b-preserved
loop-b-preserved g c =
    let m = g.B.Break.meaning in
    let test = range_holds_no_shift c.args.length c.args.shifts.now in
    let x = c.b-item.result in
    let b = m x in
    let last_end = c.loop-b.last_end in
    let before = map m c.loop-b.kept.items in
    let passes = test b && nat_le last_end (begin_of b) in
    let more = kept_more test m c.args.breaks.now c.loop-b.b-index x before last_end c.loop-b-test.true c.b-item.is c.loop-b.invariant.all c.loop-b.invariant.ends in
    elim c.match-fitting_end.branch [
      | in-Some+in_ok-push w ↦
          let is = some_if passes w.in-Some.end (end_of b) (sym w.in-Some.is ∙ c.fitting_end.ensures) in
          let items = map-append m c.loop-b.kept.items (x ∷ []) in
          let ends : EndsAt (before ++ b ∷ []) (end_of b) = ends_at_next before last_end b c.loop-b.invariant.ends (leb-true _ _ (and_parts (test b) (nat_le last_end (begin_of b)) is.0).1) in
          rw (w.kept-is, w.last_end-is, w.in_ok-push.ensures.items) (record {
            all = items ∙ sym (more ∙ ap (λ t. cond t (before ++ b ∷ []) before) is.0);
            ends = subst (λ ks. EndsAt ks w.in-Some.end) (sym items) (subst (λ e. EndsAt (before ++ b ∷ []) e) (sym is.1) ends);
          })
      | in_default w ↦
          let no = none_if passes (end_of b) (sym w.in_default.is ∙ c.fitting_end.ensures) in
          rw (w.kept-is, w.last_end-is) (record { all = sym (more ∙ ap (λ t. cond t (before ++ b ∷ []) before) no); ends = c.loop-b.invariant.ends })
    ]

pub returns : goal.returns
returns g c = c.loop-b.invariant.all ∙ ap (λ bs. kept_breaks (range_holds_no_shift c.args.length c.args.shifts.now) (map g.B.Break.meaning bs)) (take_all c.loop-b.b-index c.args.breaks.now c.loop-b-test.false)
