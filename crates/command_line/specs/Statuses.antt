-- Which statuses of a program say that its output is as it was.
use Rattle.std.specs.Prelude.{◌≢◌, ℕ}

-- If a program ends with a status other than 0, for done, and 5, for an error of reading or writing, this holds.
abbrev pub BeforeOutput : ℕ → Type 0 → Type 0
BeforeOutput status P = status ≢ 0 → status ≢ 5 → P
