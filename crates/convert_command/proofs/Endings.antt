-- The ending of a path.
use Rattle.std.proofs.Common.{◌≡◌, ℕ, List}
use Rattle.std.specs.Bool.{MatchBool}
use Rattle.std.specs.Prelude.{Bool, None}
use Rattle.std.specs.Str.Pattern.{HasSuffixMatch, FindsTextSuffix}
use Rattle.std.proofs.lemmas.Str.Pattern.{ends_text}
use Rattle.convert_command.specs.Arguments.{has_ending}

pub ends_so : (r : Bool) (ending path : List ℕ)
    → MatchBool r (HasSuffixMatch (FindsTextSuffix ending) path) (FindsTextSuffix ending path None)
    → r ≡ has_ending ending path
ends_so r ending path h = ends_text r ending path h
