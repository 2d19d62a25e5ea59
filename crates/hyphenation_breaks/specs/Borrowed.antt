-- Lists of borrowed texts.
use Rattle.std.specs.Prelude.{ℕ, List, map}
use Rattle.std.specs.Borrow.{Bor}

-- The texts that a list borrows.
abbrev pub texts_now : List (Bor (List ℕ)) → List (List ℕ)
texts_now texts = map (λ text. text.now) texts
