use Rattle.std.proofs.Common.{drop}
use Rattle.hyphenation_html.specs.Languages.{languages_by}
use Rattle.hyphenation_html.specs.Private.Fit.{AllFit}
use Rattle.hyphenation_html.proofs.page.all_fit.Given as goal

abbrev pub invariant-loop-language : goal.invariant-loop-language
invariant-loop-language l = AllFit (languages_by l.settings (drop l.language-index l.languages)) → AllFit (languages_by l.settings l.languages)
