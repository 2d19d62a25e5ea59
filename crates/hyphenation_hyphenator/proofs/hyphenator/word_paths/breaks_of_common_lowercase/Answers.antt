use Rattle.std.proofs.Common.{[], map, sym, ap, subst, ◌∙◌}
use Rattle.hyphenation_hyphenator.specs.Fitting.{kept_breaks}
use Rattle.hyphenation_hyphenator.specs.Private.Fitting.{range_holds_no_shift}
use Rattle.hyphenation_hyphenator.specs.Folding.{fold_case}
use Rattle.hyphenation_hyphenator.specs.Opportunities.{rules_of, opportunities, Ascending}
use Rattle.hyphenation_hyphenator.proofs.CommonLowercase.{common_fold, common_breaks}
use Rattle.hyphenation_hyphenator.proofs.Standard.{on_ok_then}
use Rattle.hyphenation_hyphenator.proofs.hyphenator.word_paths.breaks_of_common_lowercase.Goals as goal

pub returns : goal.returns
returns g c =
    let word = c.args.word.now in
    let rules = rules_of g.F.Payload.Payload.change_of g.F.Listing.Break.meaning c.args.dictionary.now in
    let same = common_fold word c.utf8.word c.requires.letters in
    let found = c.in_ok-put_opportunities.ensures in
    let ascend : Ascending (fold_case word) (opportunities rules (fold_case word)) = subst (λ t. Ascending t (opportunities rules t)) (sym same) (subst (Ascending word) found.breaks found.ascend) in
    on_ok_then c.keep_fitting.result _ _
    (λ is. common_breaks rules word (map g.F.Break.meaning c.keep_fitting.new.list.items) c.utf8.word c.requires.letters ascend (is ∙ ap (kept_breaks (range_holds_no_shift _ [])) found.breaks))
    c.keep_fitting.ensures
