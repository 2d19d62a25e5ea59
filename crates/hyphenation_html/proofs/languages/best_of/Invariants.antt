use Rattle.std.proofs.Common.{◌≡◌, drop, map}
use Rattle.std.specs.Option.{option_map}
use Rattle.hyphenation_html.specs.Languages.{coded, best_of, best_from}
use Rattle.hyphenation_html.proofs.languages.best_of.Given as goal

abbrev pub invariant-loop-language : goal.invariant-loop-language
invariant-loop-language l =
    best_from l.tag (option_map (λ l'. coded l'.now) l.best) (map coded (drop l.language-index l.languages)) ≡ best_of l.tag (map coded l.languages)
