-- The first bytes of the names of settings.
use Rattle.std.specs.Prelude.{ℕ, ◌==◌, ◌||◌, Bool, false, List, [], ◌∷◌}

-- The line begins with a byte with which the name of a setting does: L, R, C or N.
abbrev pub may_be_setting : List ℕ → Bool
may_be_setting [] = false
may_be_setting (byte ∷ bytes) = byte == 76 || byte == 82 || byte == 67 || byte == 78
