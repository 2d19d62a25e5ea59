use Rattle.std.proofs.Common.{◌≡◌, true, subst, rules}
use Rattle.std.proofs.lemmas.Str.{IsUtf8-string_bytes}
use Rattle.hyphenation_breaks.specs.Break.{Change}
use Rattle.hyphenation_breaks.specs.Invariant.{can_be_written}
use Rattle.hyphenation_breaks.proofs.Changes.{said_by}
use Rattle.hyphenation_breaks.proofs.extended.Subregion.invariant.Goals as goal

pub returns-clause-writable : goal.returns-clause-writable
returns-clause-writable c = subst (λ (x : Change). can_be_written x ≡ true) c.self.view_is (said_by c.self.inside.left c.self.inside.right c.self.inside.breakpoint _ (search rules) (search rules) (search rules) (IsUtf8-string_bytes c.self.inside.substitution))
