use Rattle.std.proofs.Common.{[], map, refl, sym, ap, subst, ◌∙◌}
use Rattle.std.specs.Str.{IsAscii, IsUtf8}
use Rattle.hyphenation_hyphenator.specs.Fitting.{kept_breaks}
use Rattle.hyphenation_hyphenator.specs.Private.Fitting.{range_holds_no_shift}
use Rattle.hyphenation_hyphenator.specs.Folding.{fold_case}
use Rattle.hyphenation_hyphenator.specs.Opportunities.{rules_of, opportunities, Ascending}
use Rattle.hyphenation_hyphenator.proofs.AsciiWords.{fold_is_ascii}
use Rattle.hyphenation_hyphenator.proofs.Folds.{fold_is_utf8}
use Rattle.hyphenation_hyphenator.proofs.InPlace.{in_place_breaks}
use Rattle.hyphenation_hyphenator.proofs.Standard.{on_ok_then}
use Rattle.hyphenation_hyphenator.proofs.hyphenator.word_paths.breaks_of_short.Goals as goal

pub from_utf8_unchecked-folded-requires : goal.from_utf8_unchecked-folded-requires
from_utf8_unchecked-folded-requires g c = subst IsUtf8 (sym c.in-Some.ensures.folded) (fold_is_utf8 c.args.word.now c.utf8.word)

pub put_opportunities-requires : goal.put_opportunities-requires
put_opportunities-requires g c κs =
    let folded = c.from_utf8_unchecked-folded.ensures ∙ c.in-Some.ensures.folded in
    ((refl, tt), (λ is. subst IsAscii (sym folded) (fold_is_ascii c.args.word.now (c.in-Some.ensures.ascii is)), c.requires.empty))

pub returns : goal.returns
returns g c =
    let word = c.args.word.now in
    let rules = rules_of g.F.Payload.Payload.change_of g.F.Listing.Break.meaning c.args.dictionary.now in
    let folded = c.from_utf8_unchecked-folded.ensures ∙ c.in-Some.ensures.folded in
    let found = c.in_ok-put_opportunities.ensures in
    let ascend : Ascending (fold_case word) (opportunities rules (fold_case word)) = subst (λ t. Ascending t (opportunities rules t)) folded (subst (Ascending c.from_utf8_unchecked-folded.result.now) found.breaks found.ascend) in
    on_ok_then c.keep_fitting.result _ _
    (λ is. in_place_breaks rules word c.from_utf8_unchecked-folded.result.now (map g.F.Break.meaning c.keep_fitting.new.list.items) c.utf8.word c.in-Some.ensures.in_place folded ascend (is ∙ ap (kept_breaks (range_holds_no_shift _ [])) found.breaks))
    c.keep_fitting.ensures
