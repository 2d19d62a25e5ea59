use Rattle.std.proofs.Common.{◌∙◌, [], ◌∷◌, ap, sym, Some}
use Rattle.libhyphen_files.proofs.SharedPatterns.{one_item}
use Rattle.libhyphen_files.proofs.level.has_digits.Goals as goal

pub returns-in-len1 : goal.returns-in-len1
returns-in-len1 c = λ same.
    sym c.in-Some.ensures
    ∙ ap (λ entries. Some entries) (one_item c.in-Some.entries.now c.pattern-item.result _ c.in-len1.len_at_least c.in-len1.len_below c.pattern-item.is)
    ∙ ap (λ pattern. Some (pattern ∷ [])) (c.is_unchanging.ensures same)
