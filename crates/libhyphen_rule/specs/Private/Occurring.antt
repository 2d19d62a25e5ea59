-- The bytes that occur in a text.
use Rattle.std.specs.Prelude.{◌≡◌, ℕ, ◌==◌, ◌<◌, Bool, false, List, slice_index_or}
use Rattle.std.specs.List.{list_any}

-- Exactly the bytes that occur in the text are marked.
abbrev pub AreOccurring : List Bool → List ℕ → Type 0
AreOccurring marks text = (b : ℕ) → b < 256 → slice_index_or marks b false ≡ list_any (λ byte. byte == b) text
