-- Lines that hold as much as fits.
use Rattle.std.specs.Prelude.{◌≡◌, ℕ, ◌+◌, ◌<◌, ◌≤◌, List, [], ◌∷◌, length}
use Rattle.line_division.specs.declared.stretch.Stretch.{Stretch}
use Rattle.line_division.specs.Lines.{stretch_at, joined_width, line_width}
use Rattle.line_division.specs.Division.{MayStand}

-- The line from a start to an end is allowed, and none from there that fits ends later.
pub record IsFurthest (stretches : List Stretch) (columns start end : ℕ) : Type 0 where
  pub after : start < end
  pub within : end ≤ length stretches
  pub stands : MayStand stretches columns start end
  pub furthest : (later : ℕ) → start < later → later ≤ length stretches → line_width stretches start later ≤ columns
      → later ≤ end

-- Each of a row of ends is the furthest one from the end before, and the last one is the end of all.
abbrev pub AreFurthest : List Stretch → ℕ → ℕ → List ℕ → Type 0
AreFurthest stretches columns start [] = start ≡ length stretches
AreFurthest stretches columns start (end ∷ ends) =
    IsFurthest stretches columns start end × AreFurthest stretches columns end ends

-- A line that begins a stretch later is no wider for it, except the first line of all, whose indent may be its own.
abbrev pub IsOrderly : List Stretch → Type 0
IsOrderly stretches = (place : ℕ) → 0 < place → place + 1 < length stretches
    → (stretch_at stretches (place + 1)).opening
    ≤ (stretch_at stretches place).opening + joined_width (stretch_at stretches place)
