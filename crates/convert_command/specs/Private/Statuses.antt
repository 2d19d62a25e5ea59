-- Which minima are missed.
use Rattle.std.specs.Prelude.{◌≡◌, ◌⊎◌, ℕ, Option, None, ⊤}
use Rattle.convert_command.specs.declared.Failure.{Failure}
use Rattle.convert_command.specs.declared.Failure.TheVariants.{Minima}

-- Minima are missed only if one of the two was not given.
abbrev pub MissesMinima : Option ℕ → Option ℕ → Failure → Type 0
MissesMinima left right Minima = (left ≡ None) ⊎ (right ≡ None)
MissesMinima left right _ = ⊤
