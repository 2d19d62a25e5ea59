use Rattle.std.proofs.Common.{[], map, refl, sym, ap, subst, ◌∙◌}
use Rattle.hyphenation_hyphenator.specs.Fitting.{kept_breaks}
use Rattle.hyphenation_hyphenator.specs.Private.Fitting.{range_holds_no_shift}
use Rattle.hyphenation_hyphenator.specs.Folding.{fold_case}
use Rattle.hyphenation_hyphenator.specs.Opportunities.{rules_of, opportunities, Ascending}
use Rattle.hyphenation_hyphenator.proofs.AsciiWords.{ascii_lowercase_ascii, ascii_lowercase_fold}
use Rattle.hyphenation_hyphenator.proofs.InPlace.{ascii_in_place, in_place_breaks}
use Rattle.hyphenation_hyphenator.proofs.Standard.{on_ok_then}
use Rattle.hyphenation_hyphenator.proofs.hyphenator.word_paths.breaks_of_ascii_lowercase.Goals as goal

pub put_opportunities-requires : goal.put_opportunities-requires
put_opportunities-requires g c κs = ((refl, tt), (λ _. ascii_lowercase_ascii c.args.word.now c.requires.letters, c.requires.empty))

pub returns : goal.returns
returns g c =
    let word = c.args.word.now in
    let rules = rules_of g.F.Payload.Payload.change_of g.F.Listing.Break.meaning c.args.dictionary.now in
    let same = ascii_lowercase_fold word c.requires.letters in
    let found = c.in_ok-put_opportunities.ensures in
    let ascend : Ascending (fold_case word) (opportunities rules (fold_case word)) = subst (λ t. Ascending t (opportunities rules t)) (sym same) (subst (Ascending word) found.breaks found.ascend) in
    on_ok_then c.keep_fitting.result _ _
    (λ is. in_place_breaks rules word word (map g.F.Break.meaning c.keep_fitting.new.list.items) c.utf8.word (ascii_in_place word (ascii_lowercase_ascii word c.requires.letters)) (sym same) ascend (is ∙ ap (kept_breaks (range_holds_no_shift _ [])) found.breaks))
    c.keep_fitting.ensures
