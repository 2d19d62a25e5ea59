-- The steps of a removal.
use Rattle.std.specs.Prelude.{ℕ, List, map, Option}
use Rattle.std.specs.String.{string_bytes}
use Rattle.std.specs.declared.string.String.{String}
use Rattle.command_line.specs.Dictionaries.{KnownFiles}
use Rattle.text_results.specs.Reading.{parsed_removal}
use Rattle.text_results.specs.Removals.{AreRests}
use Rattle.text_results.specs.declared.removal.Removal.{Removal}

-- These strings are the results of a removal.
abbrev pub HasRests : {Z : Type 0} → Removal → KnownFiles → Option (List ℕ) → List (String Z) → Type 0
HasRests removal bytes_of left rests =
    AreRests removal.source bytes_of left (parsed_removal removal).inputs (map string_bytes rests)
