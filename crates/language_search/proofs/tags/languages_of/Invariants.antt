use Rattle.std.proofs.Common.{◌≡◌, ◌++◌}
use Rattle.std.specs.List.{filter}
use Rattle.hyphenation_breaks.specs.Language.{is_code}
use Rattle.language_search.specs.Private.Fronts.{codes_before}
use Rattle.language_search.specs.Tags.{fronts}
use Rattle.language_search.proofs.tags.languages_of.Given as goal

-- With the codes of the fronts that are left, the languages are those of all fronts.
abbrev pub invariant-loop-place : goal.invariant-loop-place
invariant-loop-place l = l.languages.items ++ codes_before l.tag l.place ≡ filter is_code (fronts l.tag)
