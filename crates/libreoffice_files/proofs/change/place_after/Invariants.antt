use Rattle.std.proofs.Common.{◌≡◌, ◌+◌, drop}
use Rattle.std.specs.Prelude.{slice_get}
use Rattle.libreoffice_files.specs.LibreOfficePatterns.{char_places, place_after}
use Rattle.libreoffice_files.proofs.change.place_after.Given as goal

abbrev pub invariant-loop-byte : goal.invariant-loop-byte
invariant-loop-byte l = record {
  at : l.at ≡ l.begin + l.byte-index;
  place : slice_get (char_places l.at (drop l.byte-index l.byte-items)) l.left ≡ place_after l.key l.begin l.count;
}
