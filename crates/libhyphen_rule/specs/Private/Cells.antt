-- The cells of a frame's places while the patterns are met.
use Rattle.std.specs.Prelude.{◌≡◌, ℕ, pos, ◌+ℤ◌, int_le, nat_le, ◌<◌, ◌≤◌, ◌==◌, ◌&&◌, ◌++◌, if◌then◌else◌, Bool, false, List, [], ◌∷◌, length, slice_index_or, Option, Some, None}
use Rattle.std.specs.Borrow.{Bor}
use Rattle.hyphenation_breaks.specs.Ascii.{digit_zero}
use Rattle.libhyphen_files.specs.Patterns.{Change}
use Rattle.libhyphen_rule.specs.Counting.{Counted}
use Rattle.libhyphen_rule.specs.OneLevel.{Offer, offers_of, digit_at, change_at, place_of_region, cut_of_region, begins_at, if_change, cut_or_zero}
use Rattle.libhyphen_rule.specs.Private.Pass.{value_of}
use Rattle.libhyphen_rule.specs.declared.cells.Cell.{Cell}

-- The cell of a place, by the patterns that count and what is given.
pub record IsCell (counted : List Counted) (given : List Offer) (places place : ℕ) (cell : Cell) : Type 0 where
  pub digit : cell.digit ≡ digit_at given place
  pub change : value_of cell.change ≡ change_at given place
  pub region : cell.place ≡ place_of_region given place
  pub cut : cell.cut ≡ cut_of_region counted place
  pub within : (at : ℕ) → cell.place ≡ Some at → (place ≤ at) × (at < places)

-- A cell of a place to which nothing is given.
abbrev pub empty_cell : Cell
empty_cell = record { digit = digit_zero; change = None; place = None; cut = pos 0 }

-- The cells of all places of the frame.
abbrev pub HasCells : List Counted → List Offer → List Cell → Type 0
HasCells counted given cells =
    (place : ℕ) (d : Cell) → place < length cells
    → IsCell counted given (length cells) place (slice_index_or cells place d)

-- A region begins there.
abbrev pub is_at : Option ℕ → ℕ → Bool
is_at None begin = false
is_at (Some at) begin = at == begin

-- Where a region begins, if it begins in the frame or behind it.
abbrev pub IsBegin : ℕ → Option Change → Option ℕ → Type 0
IsBegin first change at = (begin : ℕ) → if_change (begins_at begin first) change ≡ is_at at begin

-- The region that begins there has a change, and the place lies in it.
abbrev pub lies_in : ℕ → Option Change → Option ℕ → ℕ → Bool
lies_in place change begin at =
    if_change (λ c. is_at begin at && nat_le at place && int_le (pos place) (pos at +ℤ c.cut)) change

-- A cell after a write, if it is written.
abbrev pub with_region : ℕ → Bool → Cell → Cell
with_region place here cell = if here then record cell { place = Some place } else cell

abbrev pub with_cut : Option Change → Bool → Cell → Cell
with_cut change here cell = if here then record cell { cut = cut_or_zero change } else cell

abbrev pub with_digit : ℕ → Bool → Cell → Cell
with_digit digit here cell = if here then record cell { digit = digit } else cell

abbrev pub with_change : Option (Bor Change) → Bool → Cell → Cell
with_change change here cell = if here then record cell { change = change } else cell

-- The cells after a write, by their places.
abbrev pub AreCells : List Cell → List Cell → (ℕ → Cell → Cell) → Type 0
AreCells old new after =
    (at : ℕ) (d : Cell) → at < length old → slice_index_or new at d ≡ after at (slice_index_or old at d)

-- The offers before another one, and with it.
abbrev pub TakesOffer : ℕ → ℕ → Option Change → Option ℕ → List Cell → List Cell → Type 0
TakesOffer place digit change begin old new =
    (counted : List Counted) (given : List Offer) (o : Offer) → o.place ≡ place → o.digit ≡ digit → o.change ≡ change
    → IsBegin o.first change begin → HasCells counted given old → HasCells counted (given ++ o ∷ []) new

-- The same for the offers of a pattern.
abbrev pub TakesOffers : ℕ → List ℕ → Option Change → Option ℕ → List Cell → List Cell → Type 0
TakesOffers start digits change begin old new =
    (counted : List Counted) (given : List Offer) (c : Counted) → c.start ≡ start → c.digits ≡ digits → c.change ≡ change
    → IsBegin c.first change begin → HasCells counted given old → HasCells counted (given ++ offers_of c) new

-- The same with the cut of the pattern's region.
abbrev pub TakesPattern : ℕ → ℕ → List ℕ → Option Change → List Cell → List Cell → Type 0
TakesPattern start first digits change old new =
    (counted : List Counted) (given : List Offer) (c : Counted) → c.start ≡ start → c.first ≡ first → c.digits ≡ digits
    → c.change ≡ change → HasCells counted given old → HasCells (counted ++ c ∷ []) (given ++ offers_of c) new
