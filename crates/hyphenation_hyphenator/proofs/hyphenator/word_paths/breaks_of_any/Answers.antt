use Rattle.std.proofs.Common.{map, length, refl, ap, ◌∙◌, arith}
use Rattle.hyphenation_breaks.specs.Break.{plain_break}
use Rattle.hyphenation_hyphenator.specs.Fitting.{kept_breaks}
use Rattle.hyphenation_hyphenator.specs.Private.Fitting.{range_holds_no_shift}
use Rattle.hyphenation_hyphenator.specs.Opportunities.{rules_of, opportunities}
use Rattle.hyphenation_hyphenator.specs.SoftHyphens.{soft_hyphens}
use Rattle.hyphenation_hyphenator.proofs.FittedBreaks.{breaks_are, soft_breaks_are}
use Rattle.hyphenation_hyphenator.proofs.RulesAscend.{rules_are_sound, opportunities_ascend}
use Rattle.hyphenation_hyphenator.proofs.Standard.{no_soft_hyphens, none_is_not_some, on_ok_then}
use Rattle.hyphenation_hyphenator.proofs.hyphenator.word_paths.breaks_of_any.Goals as goal

-- A word with soft hyphens.

pub returns-in-Some : goal.returns-in-Some
returns-in-Some g c =
    let m = g.F.Break.meaning in
    let word = c.args.word.now in
    let found = rw c.in-Some.is at c.in_ok-places.ensures.places in
    let some = rw c.in-Some.is at c.in_ok-places.ensures.some_if_any in
    on_ok_then c.put_plain.result _ _
    (λ h. soft_breaks_are (rules_of g.F.Payload.Payload.change_of g.F.Listing.Break.meaning c.args.dictionary.now) word (map m c.put_plain.new.list.items) (some.0 refl) (h ∙ ap (map plain_break) (c.deref.ensures.value ∙ found)))
    c.put_plain.ensures

-- Any other word.

pub returns : goal.returns
returns g c =
    let m = g.F.Break.meaning in
    let change_of = g.F.Payload.Payload.change_of in
    let break_of = g.F.Listing.Break.meaning in
    let word = c.args.word.now in
    let contents = c.args.dictionary.now in
    let rules = rules_of change_of break_of contents in
    let text = c.as_str-text.result.now in
    let size = length text in
    let shifts = c.deref-shifts.result.now in
    let found = opportunities rules text in
    let kept = kept_breaks (range_holds_no_shift size shifts) found in
    let none = no_soft_hyphens (soft_hyphens word) (λ some. none_is_not_some c.in_ok-places.field-0 c.in_default.is (c.in_ok-places.ensures.some_if_any.1 some)) in
    let sound = opportunities_ascend rules text (rules_are_sound change_of break_of contents text c.value_is_borne.ensures c.invariant.ensures c.as_str-text.utf8) in
    on_ok_then c.breaks_of_folded.result _ _
    (λ is. breaks_are rules word text size shifts found kept (map m c.breaks_of_folded.new.list.items) c.utf8.word (omega arith) none (record {
      folded_is = c.as_str-text.ensures.value ∙ c.in_ok-folded.ensures.folded;
      size_is = refl;
      shifts_are = c.deref-shifts.ensures.value ∙ c.in_ok-folded.ensures.shifts;
      found_are = refl;
      ascend = sound;
      kept_are = refl;
      new_are = is;
    }))
    c.breaks_of_folded.ensures
