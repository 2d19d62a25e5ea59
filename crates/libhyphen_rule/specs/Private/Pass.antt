-- One pass over the frame of a word.
use Rattle.std.specs.Prelude.{Option, option_map}
use Rattle.std.specs.Borrow.{Bor}

-- The value behind a reference, if there is one.
abbrev pub value_of : {X : Type 0} → Option (Bor X) → Option X
value_of found = option_map (λ x. x.now) found
